-- The bytes of a slot: a gate, a number of 8 bytes, a length of 8 bytes, and the payload.
use Rattle.std.specs.Prelude.{ℕ, ◌-◌, nat_le, nat_lt, ◌==◌, ◌&&◌, Bool, List, ◌++◌, length, take, drop, slice_index, Option, Some, None, if◌then◌else◌}
use Rattle.std.specs.Int.{from_le_bytes, to_le_bytes, w64}
use Rattle.cdc_cell.specs.declared.slot.SlotHead.{SlotHead}

-- the 8 bytes from a place on, as a number
unfoldable pub number_at : ℕ → List ℕ → ℕ
number_at place bytes = from_le_bytes w64 (take 8 (drop place bytes))

-- its gate is 01, and its head is whole
abbrev pub is_open : List ℕ → Bool
is_open bytes = nat_le 17 (length bytes) && (slice_index bytes 0 == 1)

-- a slot's number
abbrev pub slot_number : List ℕ → ℕ
slot_number bytes = number_at 1 bytes

-- the length of a slot's payload
abbrev pub slot_length : List ℕ → ℕ
slot_length bytes = number_at 9 bytes

-- a slot's payload
abbrev pub slot_payload : List ℕ → List ℕ
slot_payload bytes = take (slot_length bytes) (drop 17 bytes)

-- it is open, and its length goes past the file's end
abbrev pub is_overrun : List ℕ → Bool
is_overrun bytes = is_open bytes && nat_lt (length bytes - 17) (slot_length bytes)

-- an open slot's head
abbrev pub head_of : List ℕ → Option SlotHead
head_of bytes = if is_open bytes then Some record { number = slot_number bytes; length = slot_length bytes; overruns = nat_lt (length bytes - 17) (slot_length bytes) } else None

-- the number and the length, as they stand behind the gate
unfoldable pub slot_head : ℕ → ℕ → List ℕ
slot_head number size = to_le_bytes w64 number ++ to_le_bytes w64 size
