-- The bytes of a link in memory.
use Rattle.std.specs.Prelude.{◌≡◌, ℕ, ◌-◌, Bool, List, ◌++◌, length, take, drop, nat_lt}
use Rattle.std.proofs.Common.{sym}
use Rattle.std.proofs.lemmas.List.{take-append-drop}
use Rattle.cdc_memory.specs.declared.wire.Wire.{Wire}

-- all bytes that come in
abbrev pub wire_input : Wire → List ℕ
wire_input wire = wire.input

-- those that are still to come
abbrev pub wire_left : Wire → List ℕ
wire_left wire = drop wire.at wire.input

-- all bytes that went out
abbrev pub wire_written : Wire → List ℕ
wire_written wire = wire.written.items

-- how many bytes may go out in all
abbrev pub wire_room : Wire → ℕ
wire_room wire = wire.room

-- whether these bytes go past its room
abbrev pub is_past_wire : Wire → List ℕ → Bool
is_past_wire wire bytes = nat_lt (wire.room - length wire.written.items) (length bytes)

-- what is still to come ends what comes in at all
pub left_ends : (wire : Wire) → (gone : List ℕ) × (wire_input wire ≡ gone ++ wire_left wire)
left_ends wire = (take wire.at wire.input, sym (take-append-drop wire.at wire.input))
