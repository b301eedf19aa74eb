-- The record by whether each slot is open, and whether it is overrun.
use Rattle.std.proofs.Common.{◌≡◌, ℕ, ◌-◌, ◌≤◌, min, nat_lt, ◌==◌, ◌&&◌, ◌||◌, Bool, true, false, if◌then◌else◌, List, length, drop, Option, Some, None, Err, refl, sym, ◌∙◌, ap, arith, length-take, length-drop}
use Rattle.std.specs.Prelude.{option_map}
use Rattle.std.proofs.lemmas.Bool.Decides.{nat_tests}
use Rattle.cdc_outside.specs.declared.disk_file.DiskFile.{DiskFile}
use Rattle.cdc_outside.specs.declared.disk_file.DiskFile.TheVariants.{SlotA, SlotB}
use Rattle.cdc_outside.specs.Disk.{Image}
use Rattle.cdc_cell.specs.Slot.{is_open, head_of, slot_number, slot_length, slot_payload}
use Rattle.cdc_cell.specs.Record.{CellRecord, record_in, bad_by, kept_by}
use Rattle.cdc_cell.specs.Cell.{known_of, kept_head, opened_from, decided, decided_by}
use Rattle.cdc_cell.specs.declared.cell.Kept.{Kept}
use Rattle.cdc_cell.specs.declared.fault.CellFault.TheVariants.{BadCell, DiskFault}
use Rattle.cdc_cell.specs.declared.slot.SlotHead.{SlotHead}

-- what is known of a payload that is there
whole_known : (slot : DiskFile) (bytes : List ℕ) → nat_lt (length bytes - 17) (slot_length bytes) ≡ false
    → known_of (record_in slot bytes) ≡ kept_head slot record { number = slot_number bytes; length = slot_length bytes; overruns = false }
whole_known slot bytes there =
    let size : length (slot_payload bytes) ≡ slot_length bytes = sized (length bytes - 17) (slot_length bytes) there (length-take (slot_length bytes) (drop 17 bytes) ∙ ap (min (slot_length bytes)) (length-drop 17 bytes)) in
    ap (λ n. record { slot = slot; number = slot_number bytes; length = n }) size
  where
    sized : (left long : ℕ) {size : ℕ} → nat_lt left long ≡ false → size ≡ min long left → size ≡ long
    sized left long {size} fits is = let le : long ≤ left = grind (arith, nat_tests) in omega arith

both : (eq less : Bool) (one two : Kept) (first second : CellRecord) → known_of first ≡ one → known_of second ≡ two
    → (if eq then Err (BadCell SlotB) else if less then opened_from None (Some one) else opened_from None (Some two)) ≡ opened_from (bad_by false false eq) (option_map known_of (kept_by true true less first second))
both true less one two first second e f = refl
both false true one two first second e f = ap (λ k. opened_from None (Some k)) (sym e)
both false false one two first second e f = ap (λ k. opened_from None (Some k)) (sym f)

-- by the flags of both slots
by_flags : (oa ob va vb : Bool) (na nb la lb : ℕ) (first second : CellRecord)
    → (va ≡ false → known_of first ≡ kept_head SlotA record { number = na; length = la; overruns = false })
    → (vb ≡ false → known_of second ≡ kept_head SlotB record { number = nb; length = lb; overruns = false })
    → decided_by (if oa then Some record { number = na; length = la; overruns = va } else None) (if ob then Some record { number = nb; length = lb; overruns = vb } else None)
    ≡ opened_from (bad_by (oa && va) (ob && vb) (oa && ob && (na == nb))) (option_map known_of (kept_by oa ob (nat_lt nb na) first second))
by_flags false false va vb na nb la lb first second ka kb = refl
by_flags true false true vb na nb la lb first second ka kb = refl
by_flags true false false vb na nb la lb first second ka kb = ap (λ k. opened_from None (Some k)) (sym (ka refl))
by_flags false true va true na nb la lb first second ka kb = refl
by_flags false true va false na nb la lb first second ka kb = ap (λ k. opened_from None (Some k)) (sym (kb refl))
by_flags true true true vb na nb la lb first second ka kb = refl
by_flags true true false true na nb la lb first second ka kb = refl
by_flags true true false false na nb la lb first second ka kb =
    both (na == nb) (nat_lt nb na) (kept_head SlotA record { number = na; length = la; overruns = false }) (kept_head SlotB record { number = nb; length = lb; overruns = false }) first second (ka refl) (kb refl)

-- the cell by its heads is the cell by its image
pub by_heads : (image : Image) → decided_by (head_of (image SlotA)) (head_of (image SlotB)) ≡ decided image
by_heads image =
    let a = image SlotA in
    let b = image SlotB in
    by_flags (is_open a) (is_open b) (nat_lt (length a - 17) (slot_length a)) (nat_lt (length b - 17) (slot_length b)) (slot_number a) (slot_number b) (slot_length a) (slot_length b) (record_in SlotA a) (record_in SlotB b)
    (whole_known SlotA a) (whole_known SlotB b)

-- and never a fault of the disk
pub no_fault : (first second : Option SlotHead) → decided_by first second ≡ Err DiskFault → ⊥
no_fault None None e = absurd (cc)
no_fault (Some one) None e = one_fault one.overruns SlotA (kept_head SlotA one) e
  where
    one_fault : (b : Bool) (slot : DiskFile) (k : Kept) → (if b then Err (BadCell slot) else opened_from None (Some k)) ≡ Err DiskFault → ⊥
    one_fault true slot k e = absurd (cc)
    one_fault false slot k e = absurd (cc)
no_fault None (Some two) e = one_fault two.overruns SlotB (kept_head SlotB two) e
  where
    one_fault : (b : Bool) (slot : DiskFile) (k : Kept) → (if b then Err (BadCell slot) else opened_from None (Some k)) ≡ Err DiskFault → ⊥
    one_fault true slot k e = absurd (cc)
    one_fault false slot k e = absurd (cc)
no_fault (Some one) (Some two) e = two_fault one.overruns (two.overruns || one.number == two.number) (nat_lt two.number one.number) (kept_head SlotA one) (kept_head SlotB two) e
  where
    two_fault : (b d l : Bool) (k m : Kept) → (if b then Err (BadCell SlotA) else if d then Err (BadCell SlotB) else if l then opened_from None (Some k) else opened_from None (Some m)) ≡ Err DiskFault → ⊥
    two_fault true d l k m e = absurd (cc)
    two_fault false true l k m e = absurd (cc)
    two_fault false false true k m e = absurd (cc)
    two_fault false false false k m e = absurd (cc)
