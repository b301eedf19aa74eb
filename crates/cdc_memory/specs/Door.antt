-- Doors in memory.
use Rattle.std.specs.Prelude.{ℕ, ◌≤◌, Bool, List, length, map, take}
use Rattle.std.proofs.Common.{arith}
use Rattle.std.proofs.lemmas.List.{length-take, length-map}
use Rattle.cdc_outside.specs.Link.{Served}
use Rattle.cdc_memory.specs.Calls.{Calls}
use Rattle.cdc_memory.specs.Returned.{served_entry, pure_served_entry}
use Rattle.cdc_memory.specs.declared.link.MemLink.{MemLink}
use Rattle.cdc_memory.specs.declared.link.PureLink.{PureLink}
use Rattle.cdc_memory.specs.declared.door.MemDoor.{MemDoor}
use Rattle.cdc_memory.specs.declared.pure_door.PureDoor.{PureDoor}

-- the links that weren't given out yet
abbrev pub waiting_of : MemDoor → List MemLink
waiting_of door = door.waiting.items

-- the inputs of those that were
abbrev pub handed_of : MemDoor → List (List ℕ)
handed_of door = take door.given door.inputs.items

-- those that were handed back
abbrev pub served_of : MemDoor → List Served
served_of door = map served_entry door.returned.items

-- its calls of `next` so far
abbrev pub door_calls_of : MemDoor → Calls
door_calls_of door = door.calls

-- whether it has answered that none comes any more
abbrev pub shut_of : MemDoor → Bool
shut_of door = door.shut

-- the same of a door whose calls never fail
abbrev pub pure_waiting_of : PureDoor → List PureLink
pure_waiting_of door = door.waiting.items

-- the inputs of the links that a door without failing calls has given out
abbrev pub pure_handed_of : PureDoor → List (List ℕ)
pure_handed_of door = take door.given door.inputs.items

-- the links that were handed back to a door without failing calls
abbrev pub pure_served_of : PureDoor → List Served
pure_served_of door = map pure_served_entry door.returned.items

-- a door without failing calls has answered that it is closed
abbrev pub pure_shut_of : PureDoor → Bool
pure_shut_of door = door.shut

-- no more come back than were given out
pub served_few : (door : MemDoor) → length (served_of door) ≤ length (handed_of door)
served_few door = omega (arith, door.returned_within, door.given_within, length-take door.given door.inputs.items, length-map door.returned.items served_entry)

-- a door without failing calls has had back no more links than it gave out
pub pure_served_few : (door : PureDoor) → length (pure_served_of door) ≤ length (pure_handed_of door)
pure_served_few door = omega (arith, door.returned_within, door.given_within, length-take door.given door.inputs.items, length-map door.returned.items pure_served_entry)
