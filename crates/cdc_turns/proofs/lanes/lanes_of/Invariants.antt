-- So far each lane is empty and has its room.
use Rattle.std.proofs.Common.{◌≡◌, [], length}
use Rattle.std.specs.List.{All}
use Rattle.cdc_lane.specs.Held.{held, room_of}
use Rattle.cdc_turns.proofs.lanes.lanes_of.Given as goal

abbrev pub invariant-loop : goal.invariant-loop
invariant-loop g l = (length l.lanes.items ≡ l.counter) × All (λ lane. held lane ≡ []) l.lanes.items × All (λ lane. room_of lane ≡ l.fn.room) l.lanes.items
