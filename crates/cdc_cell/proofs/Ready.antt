-- What images of a store keep, slot by slot.
use Rattle.std.proofs.Common.{◌≡◌, ◌⊎◌, inl, inr, ℕ, ◌<◌, nat_lt, ◌==◌, ◌&&◌, Bool, true, false, if◌then◌else◌, List, Option, Some, None, refl, sym, ◌∙◌, ap, subst, arith}
use Rattle.std.specs.Prelude.{option_map}
use Rattle.std.proofs.lemmas.Bool.Decides.{nat_tests}
use Rattle.cdc_outside.specs.declared.disk_file.DiskFile.{DiskFile}
use Rattle.cdc_outside.specs.declared.disk_file.DiskFile.TheVariants.{SlotA, SlotB, Log}
use Rattle.cdc_outside.specs.Disk.{Image}
use Rattle.cdc_cell.specs.Slot.{is_open, is_overrun, slot_number}
use Rattle.cdc_cell.specs.Record.{CellRecord, record_in, bad_by, kept_by, bad_slot, kept_record, other_slot, IsReady}
use Rattle.cdc_cell.specs.Cell.{known_of, target_in, number_in, Knows}
use Rattle.cdc_cell.specs.declared.cell.Cell.{Cell}
use Rattle.cdc_cell.specs.declared.cell.Kept.{Kept}

first_whole : (x y z : Bool) → bad_by x y z ≡ None → x ≡ false
first_whole true y z e = absurd (cc)
first_whole false y z e = refl

second_whole : (x y z : Bool) → bad_by x y z ≡ None → y ≡ false
second_whole true y z e = absurd (cc)
second_whole false true z e = absurd (cc)
second_whole false false z e = refl

free_a : (a b : List ℕ) (oa ob less : Bool) → target_in (option_map known_of (kept_by oa ob less (record_in SlotA a) (record_in SlotB b))) ≡ SlotA
    → kept_by oa ob less (record_in SlotA a) (record_in SlotB b) ≡ (if ob then Some (record_in SlotB b) else None)
free_a a b true true true e = absurd (cc)
free_a a b true true false e = refl
free_a a b true false less e = absurd (cc)
free_a a b false true less e = refl
free_a a b false false less e = refl

free_b : (a b : List ℕ) (oa ob less : Bool) → target_in (option_map known_of (kept_by oa ob less (record_in SlotA a) (record_in SlotB b))) ≡ SlotB
    → kept_by oa ob less (record_in SlotA a) (record_in SlotB b) ≡ (if oa then Some (record_in SlotA a) else None)
free_b a b true true true e = refl
free_b a b true true false e = absurd (cc)
free_b a b true false less e = refl
free_b a b false true less e = absurd (cc)
free_b a b false false less e = absurd (cc)

less_than : (slot : DiskFile) (bytes : List ℕ) (is : Bool) (kept : Option Kept) (number : ℕ) → kept ≡ option_map known_of (if is then Some (record_in slot bytes) else None) → number_in kept < number → is ≡ true → slot_number bytes < number
less_than slot bytes true kept number e lt yes_ = let same : number_in kept ≡ slot_number bytes = ap number_in e in omega arith
less_than slot bytes false kept number e lt no_ = absurd (cc)

pub ready : (cell : Cell) (number : ℕ) (old : Image) (slot : DiskFile) → Knows cell old → number_in cell.kept < number → slot ≡ target_in cell.kept → (slot ≡ SlotA) ⊎ (slot ≡ SlotB) → IsReady slot number old
ready cell number old slot knows lt is (inl a) =
    let target : target_in (option_map known_of (kept_record old)) ≡ SlotA = ap target_in (sym knows.kept) ∙ sym is ∙ a in
    let free : kept_record old ≡ (if is_open (old SlotB) then Some (record_in SlotB (old SlotB)) else None) = free_a (old SlotA) (old SlotB) (is_open (old SlotA)) (is_open (old SlotB)) (nat_lt (slot_number (old SlotB)) (slot_number (old SlotA))) target in
    subst (λ s. IsReady s number old) (sym a) record {
      sound = knows.sound;
      free = free;
      less = less_than SlotB (old SlotB) (is_open (old SlotB)) cell.kept number (knows.kept ∙ ap (option_map known_of) free) lt;
    }
ready cell number old slot knows lt is (inr b) =
    let target : target_in (option_map known_of (kept_record old)) ≡ SlotB = ap target_in (sym knows.kept) ∙ sym is ∙ b in
    let free : kept_record old ≡ (if is_open (old SlotA) then Some (record_in SlotA (old SlotA)) else None) = free_b (old SlotA) (old SlotB) (is_open (old SlotA)) (is_open (old SlotB)) (nat_lt (slot_number (old SlotB)) (slot_number (old SlotA))) target in
    subst (λ s. IsReady s number old) (sym b) record {
      sound = knows.sound;
      free = free;
      less = less_than SlotA (old SlotA) (is_open (old SlotA)) cell.kept number (knows.kept ∙ ap (option_map known_of) free) lt;
    }

-- the other slot is as it was, and this one is shut
bad_shut_a : (oa va x eq ob : Bool) → oa ≡ false → x ≡ false → bad_by (oa && va) x (oa && ob && eq) ≡ None
bad_shut_a true va x eq ob e f = absurd (cc)
bad_shut_a false va true eq ob e f = absurd (cc)
bad_shut_a false va false eq ob e f = refl

bad_shut_b : (ob vb x eq oa : Bool) → ob ≡ false → x ≡ false → bad_by x (ob && vb) (oa && ob && eq) ≡ None
bad_shut_b true vb x eq oa e f = absurd (cc)
bad_shut_b false vb true eq oa e f = absurd (cc)
bad_shut_b false vb false eq true e f = refl
bad_shut_b false vb false eq false e f = refl

kept_shut_a : (oa ob less : Bool) (first second : CellRecord) → oa ≡ false → kept_by oa ob less first second ≡ (if ob then Some second else None)
kept_shut_a true ob less first second e = absurd (cc)
kept_shut_a false ob less first second e = refl

kept_shut_b : (oa ob less : Bool) (first second : CellRecord) → ob ≡ false → kept_by oa ob less first second ≡ (if oa then Some first else None)
kept_shut_b oa true less first second e = absurd (cc)
kept_shut_b true false less first second e = refl
kept_shut_b false false less first second e = refl

pub shut : (slot : DiskFile) (number : ℕ) (old left : Image) → (slot ≡ SlotA) ⊎ (slot ≡ SlotB) → IsReady slot number old → left (other_slot slot) ≡ old (other_slot slot) → is_open (left slot) ≡ false
    → (bad_slot left ≡ None) × (kept_record left ≡ kept_record old)
shut SlotA number old left which r same closed =
    let whole : is_overrun (left SlotB) ≡ false = ap is_overrun same ∙ second_whole (is_overrun (old SlotA)) (is_overrun (old SlotB)) _ r.sound in (
      bad_shut_a (is_open (left SlotA)) _ (is_overrun (left SlotB)) _ (is_open (left SlotB)) closed whole,
      kept_shut_a (is_open (left SlotA)) (is_open (left SlotB)) _ (record_in SlotA (left SlotA)) (record_in SlotB (left SlotB)) closed
          ∙ ap (λ (bytes : List ℕ). if is_open bytes then Some (record_in SlotB bytes) else None) same ∙ sym r.free,
    )
shut SlotB number old left which r same closed =
    let whole : is_overrun (left SlotA) ≡ false = ap is_overrun same ∙ first_whole (is_overrun (old SlotA)) (is_overrun (old SlotB)) _ r.sound in (
      bad_shut_b (is_open (left SlotB)) _ (is_overrun (left SlotA)) _ (is_open (left SlotA)) closed whole,
      kept_shut_b (is_open (left SlotA)) (is_open (left SlotB)) _ (record_in SlotA (left SlotA)) (record_in SlotB (left SlotB)) closed
          ∙ ap (λ (bytes : List ℕ). if is_open bytes then Some (record_in SlotA bytes) else None) same ∙ sym r.free,
    )
shut (Log n) number old left (inl e) r same closed = absurd (cc)
shut (Log n) number old left (inr e) r same closed = absurd (cc)

-- the other slot is as it was, and this one has the new record
fresh_a : (oa va ob x eq less : Bool) (first second : CellRecord) → oa ≡ true → (oa && va) ≡ false → x ≡ false → (ob ≡ true → less ≡ true) → (ob ≡ true → eq ≡ false)
    → (bad_by (oa && va) x (oa && ob && eq) ≡ None) × (kept_by oa ob less first second ≡ Some first)
fresh_a false va ob x eq less first second e f g lt ne = absurd (cc)
fresh_a true true ob x eq less first second e f g lt ne = absurd (cc)
fresh_a true false ob true eq less first second e f g lt ne = absurd (cc)
fresh_a true false false false eq less first second e f g lt ne = (refl, refl)
fresh_a true false true false eq true first second e f g lt ne = (ap (bad_by false false) (ne refl), refl)
fresh_a true false true false eq false first second e f g lt ne = absurd (let h = lt refl in cc)

fresh_b : (ob vb oa x eq less : Bool) (first second : CellRecord) → ob ≡ true → (ob && vb) ≡ false → x ≡ false → (oa ≡ true → less ≡ false) → (oa ≡ true → eq ≡ false)
    → (bad_by x (ob && vb) (oa && ob && eq) ≡ None) × (kept_by oa ob less first second ≡ Some second)
fresh_b false vb oa x eq less first second e f g lt ne = absurd (cc)
fresh_b true true oa x eq less first second e f g lt ne = absurd (cc)
fresh_b true false oa true eq less first second e f g lt ne = absurd (cc)
fresh_b true false false false eq less first second e f g lt ne = (refl, refl)
fresh_b true false true false eq false first second e f g lt ne = (ap (bad_by false false) (ne refl), refl)
fresh_b true false true false eq true first second e f g lt ne = absurd (let h = lt refl in cc)

above : (other number : ℕ) → other < number → (nat_lt other number ≡ true) × (nat_lt number other ≡ false) × ((number == other) ≡ false) × ((other == number) ≡ false)
above other number lt = (grind (arith, nat_tests), grind (arith, nat_tests), grind (arith, nat_tests), grind (arith, nat_tests))

pub fresh : (slot : DiskFile) (number : ℕ) (old left : Image) → (slot ≡ SlotA) ⊎ (slot ≡ SlotB) → IsReady slot number old → left (other_slot slot) ≡ old (other_slot slot)
    → is_open (left slot) ≡ true → is_overrun (left slot) ≡ false → slot_number (left slot) ≡ number → (bad_slot left ≡ None) × (kept_record left ≡ Some (record_in slot (left slot)))
fresh SlotA number old left which r same opened whole is =
    let other : is_overrun (left SlotB) ≡ false = ap is_overrun same ∙ second_whole (is_overrun (old SlotA)) (is_overrun (old SlotB)) _ r.sound in
    let lt : is_open (left SlotB) ≡ true → slot_number (left SlotB) < slot_number (left SlotA) = λ o.
    let less : slot_number (old SlotB) < number = r.less (ap is_open (sym same) ∙ o) in
    let e : slot_number (left SlotB) ≡ slot_number (old SlotB) = ap slot_number same in omega arith in
    fresh_a (is_open (left SlotA)) _ (is_open (left SlotB)) (is_overrun (left SlotB)) (slot_number (left SlotA) == slot_number (left SlotB)) (nat_lt (slot_number (left SlotB)) (slot_number (left SlotA))) (record_in SlotA (left SlotA)) (record_in SlotB (left SlotB))
    opened whole other (λ o. (above (slot_number (left SlotB)) (slot_number (left SlotA)) (lt o)).0) (λ o. (above (slot_number (left SlotB)) (slot_number (left SlotA)) (lt o)).2)
fresh SlotB number old left which r same opened whole is =
    let other : is_overrun (left SlotA) ≡ false = ap is_overrun same ∙ first_whole (is_overrun (old SlotA)) (is_overrun (old SlotB)) _ r.sound in
    let lt : is_open (left SlotA) ≡ true → slot_number (left SlotA) < slot_number (left SlotB) = λ o.
    let less : slot_number (old SlotA) < number = r.less (ap is_open (sym same) ∙ o) in
    let e : slot_number (left SlotA) ≡ slot_number (old SlotA) = ap slot_number same in omega arith in
    fresh_b (is_open (left SlotB)) _ (is_open (left SlotA)) (is_overrun (left SlotA)) (slot_number (left SlotA) == slot_number (left SlotB)) (nat_lt (slot_number (left SlotB)) (slot_number (left SlotA))) (record_in SlotA (left SlotA)) (record_in SlotB (left SlotB))
    opened whole other (λ o. (above (slot_number (left SlotA)) (slot_number (left SlotB)) (lt o)).1) (λ o. (above (slot_number (left SlotA)) (slot_number (left SlotB)) (lt o)).3)
fresh (Log n) number old left (inl e) r same opened whole is = absurd (cc)
fresh (Log n) number old left (inr e) r same opened whole is = absurd (cc)
