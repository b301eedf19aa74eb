-- What a cell that knows the record says of the image.
use Rattle.std.proofs.Common.{◌≡◌, ℕ, ◌+◌, ◌≤◌, ◌<◌, nat_lt, Bool, true, false, List, length, get_or, take, drop, Some, refl, sym, ◌∙◌, ap, subst, arith, length-take, length-drop}
use Rattle.std.specs.Prelude.{option_map}
use Rattle.std.proofs.lemmas.Grind.{same_number_lists}
use Rattle.std.proofs.lemmas.List.{get_or-take, get_or-drop}
use Rattle.cdc_outside.specs.declared.disk_file.DiskFile.{DiskFile}
use Rattle.cdc_outside.specs.declared.disk_file.DiskFile.TheVariants.{SlotA, SlotB}
use Rattle.cdc_outside.specs.Disk.{Image}
use Rattle.cdc_cell.specs.Slot.{is_open, slot_number, slot_payload}
use Rattle.cdc_cell.specs.Record.{record_in, kept_by, kept_record, HasNewRecord}
use Rattle.cdc_cell.specs.Cell.{known_of, payload_in, Knows}
use Rattle.cdc_cell.specs.declared.cell.Cell.{Cell}
use Rattle.cdc_cell.specs.declared.cell.Kept.{Kept}

-- the record that a cell knows is that of its slot
of_slot : (image : Image) (slot : DiskFile) (kept : Kept) → Some kept ≡ Some (known_of (record_in slot (image slot))) → (slot_payload (image slot) ≡ slot_payload (image kept.slot)) × (kept.length ≡ length (slot_payload (image kept.slot)))
of_slot image slot kept e =
    let is : known_of (record_in slot (image slot)) ≡ kept = cc in
    subst (λ (k : Kept). (slot_payload (image slot) ≡ slot_payload (image k.slot)) × (k.length ≡ length (slot_payload (image k.slot)))) is (refl, refl)

by_flags : (image : Image) (oa ob less : Bool) (kept : Kept) → Some kept ≡ option_map known_of (kept_by oa ob less (record_in SlotA (image SlotA)) (record_in SlotB (image SlotB)))
    → (payload_in (kept_by oa ob less (record_in SlotA (image SlotA)) (record_in SlotB (image SlotB))) ≡ slot_payload (image kept.slot)) × (kept.length ≡ length (slot_payload (image kept.slot)))
by_flags image true true true kept e = of_slot image SlotA kept e
by_flags image true true false kept e = of_slot image SlotB kept e
by_flags image true false less kept e = of_slot image SlotA kept e
by_flags image false true less kept e = of_slot image SlotB kept e
by_flags image false false less kept e = absurd (cc)

pub known_slot : (cell : Cell) (image : Image) (kept : Kept) → Knows cell image → cell.kept ≡ Some kept
    → (payload_in (kept_record image) ≡ slot_payload (image kept.slot)) × (kept.length ≡ length (slot_payload (image kept.slot)))
known_slot cell image kept knows is =
    by_flags image (is_open (image SlotA)) (is_open (image SlotB)) (nat_lt (slot_number (image SlotB)) (slot_number (image SlotA))) kept (sym is ∙ knows.kept)

-- a range of the payload, in the slot's bytes
pub payload_range : (size at count : ℕ) (bytes : List ℕ) → at + count ≤ length (take size (drop 17 bytes)) → take count (drop (17 + at) bytes) ≡ take count (drop at (take size (drop 17 bytes)))
payload_range size at count bytes fits =
    let whole = length-take size (drop 17 bytes) in
    let left = length-drop 17 bytes in
    same_number_lists (take count (drop (17 + at) bytes)) (take count (drop at (take size (drop 17 bytes))))
    (omega (arith, length-take count (drop (17 + at) bytes), length-take count (drop at (take size (drop 17 bytes))), length-drop (17 + at) bytes, length-drop at (take size (drop 17 bytes)), whole, left))
    (λ k lt.
    let within : k < count = omega (arith, length-take count (drop (17 + at) bytes)) in
    get_or-take count (drop (17 + at) bytes) k 0 within ∙ get_or-drop (17 + at) bytes k 0
    ∙ ap (λ n. get_or bytes n 0) (omega arith)
    ∙ sym (get_or-take count (drop at (take size (drop 17 bytes))) k 0 within ∙ get_or-drop at (take size (drop 17 bytes)) k 0 ∙ get_or-take size (drop 17 bytes) (at + k) 0 (omega (arith, whole)) ∙ get_or-drop 17 bytes (at + k) 0))

pub range_there : (size at count : ℕ) (bytes : List ℕ) → 0 < count → at + count ≤ length (take size (drop 17 bytes)) → 17 + at + count ≤ length bytes
range_there size at count bytes some fits = omega (arith, length-take size (drop 17 bytes), length-drop 17 bytes)

-- a cell that has the new record knows it
pub knows_new : (cell : Cell) (slot : DiskFile) (number : ℕ) (payload : List ℕ) (old new : Image) → HasNewRecord slot number payload old new
    → cell.kept ≡ Some record { slot = slot; number = number; length = length payload } → Knows cell new
knows_new cell slot number payload old new has is = record { sound = has.sound; kept = is ∙ sym (ap (option_map known_of) has.kept) }
