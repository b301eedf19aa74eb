-- The images of each step of a store, and what they keep.
use Rattle.std.proofs.Common.{◌≡◌, inl, inr, ⊎_elim, ℕ, ◌<◌, ◌^◌, false, List, [], ◌∷◌, ◌++◌, length, slice_index, Some, refl, sym, ◌∙◌, ap, subst}
use Rattle.cdc_outside.specs.declared.disk_file.DiskFile.{DiskFile}
use Rattle.cdc_outside.specs.declared.disk_file.DiskFile.TheVariants.{SlotA, SlotB, Log}
use Rattle.cdc_outside.specs.Disk.{Image, IsTorn, OneWrite, with_file, overwritten}
use Rattle.cdc_outside.proofs.Pending.{with_file_same, others_same}
use Rattle.cdc_cell.specs.Slot.{is_open, is_overrun, slot_number, slot_head}
use Rattle.cdc_cell.specs.Record.{IsClosing, IsShut, IsSlot, IsReady, IsOldOrNew, HasOldRecord, HasNewRecord, SameLogs, record_in, other_slot}
use Rattle.cdc_cell.proofs.Ready.{shut, fresh}
use Rattle.cdc_cell.proofs.Gates.{torn_behind, torn_open, filled, written}

-- all but one slot is as before
pub record Beside (slot : DiskFile) (old left : Image) : Type 0 where
  pub other : left (other_slot slot) ≡ old (other_slot slot)
  pub logs : SameLogs old left

pub beside : (slot : DiskFile) (bytes : List ℕ) (old left : Image) → IsSlot slot → left ≡ with_file slot bytes old → Beside slot old left
beside SlotA bytes old left which e = record { other = ap (λ (f : Image). f SlotB) e; logs = λ n. ap (λ (f : Image). f (Log n)) e }
beside SlotB bytes old left which e = record { other = ap (λ (f : Image). f SlotA) e; logs = λ n. ap (λ (f : Image). f (Log n)) e }
beside (Log n) bytes old left (inl e) is = absurd (cc)
beside (Log n) bytes old left (inr e) is = absurd (cc)

both_beside : (slot : DiskFile) (old mid left : Image) → Beside slot old mid → Beside slot mid left → Beside slot old left
both_beside slot old mid left first second = record { other = second.other ∙ first.other; logs = λ n. second.logs n ∙ first.logs n }

-- a shut slot: the old record
keeps_old : (slot : DiskFile) (number : ℕ) (old left : Image) → IsSlot slot → IsReady slot number old → Beside slot old left → is_open (left slot) ≡ false → HasOldRecord old left
keeps_old slot number old left which ready beside_ closed =
    let kept = shut slot number old left which ready beside_.other closed in
    record { sound = kept.0; kept = kept.1; logs = beside_.logs }

-- a written slot: the new one
has_new : (slot : DiskFile) (number : ℕ) (payload rest : List ℕ) (old left : Image) → number < 2 ^ 64 → length payload < 2 ^ 64 → IsSlot slot → IsReady slot number old → Beside slot old left
    → left slot ≡ 1 ∷ (slot_head number (length payload) ++ (payload ++ rest)) → HasNewRecord slot number payload old left
has_new slot number payload rest old left lt fits which ready beside_ is =
    let whole = written slot number payload rest lt fits in
    let kept =
    fresh slot number old left which ready beside_.other (ap is_open is ∙ whole.opened) (ap is_overrun is ∙ whole.whole) (ap slot_number is ∙ whole.number_is) in
    record { sound = kept.0; kept = kept.1 ∙ ap Some (ap (record_in slot) is ∙ whole.kept); logs = beside_.logs }

-- while the gate is closed
pub closing_old : (slot : DiskFile) (number : ℕ) (old left : Image) → IsSlot slot → IsReady slot number old → IsClosing slot old left → HasOldRecord old left
closing_old slot number old left which ready closing = ⊎_elim same (keeps_old slot number old left which ready (beside slot (left slot) old left which closing.others)) closing.own
  where
    same : left slot ≡ old slot → HasOldRecord old left
    same e =
        let all : left ≡ old = closing.others ∙ ap (λ (l : List ℕ). with_file slot l old) e ∙ sym (own_file slot old) in
        subst (HasOldRecord old) (sym all) record { sound = ready.sound; kept = refl; logs = λ n. refl }
      where
        own_file : (file : DiskFile) (files : Image) → files ≡ with_file file (files file) files
        own_file file files = others_same file files files (λ other isnt. refl)

-- while it is filled
pub filling_old : (slot : DiskFile) (number count : ℕ) (old mid left : Image) → IsSlot slot → IsReady slot number old → IsShut slot old mid → OneWrite slot 1 count mid left → HasOldRecord old left
filling_old slot number count old mid left which ready closed one =
    keeps_old slot number old left which ready (both_beside slot old mid left (beside slot (mid slot) old mid which closed.others) (beside slot (left slot) mid left which one.others))
    (torn_behind count (mid slot) (left slot) closed.there closed.gate one.torn)

-- the slot after it was filled
pub record IsFilled (slot : DiskFile) (number : ℕ) (payload : List ℕ) (old full : Image) : Type 0 where
  pub around : Beside slot old full
  pub gate : ℕ
  pub rest : List ℕ
  pub bytes : full slot ≡ gate ∷ (slot_head number (length payload) ++ (payload ++ rest))

pub is_filled : (slot : DiskFile) (number : ℕ) (payload : List ℕ) (old mid full : Image) → IsSlot slot → IsShut slot old mid
    → full ≡ with_file slot (overwritten 1 (slot_head number (length payload) ++ payload) (mid slot)) mid → IsFilled slot number payload old full
is_filled slot number payload old mid full which closed is =
    let bytes = overwritten 1 (slot_head number (length payload) ++ payload) (mid slot) in
    let fills = filled (slot_head number (length payload)) payload (mid slot) closed.there in
    record {
      around = both_beside slot old mid full (beside slot (mid slot) old mid which closed.others) (beside slot bytes mid full which is);
      gate = slice_index (mid slot) 0;
      rest = fills.0;
      bytes = ap (λ (f : Image). f slot) is ∙ with_file_same slot bytes mid ∙ fills.1;
    }

-- while the gate is opened
pub opening : (slot : DiskFile) (number : ℕ) (payload : List ℕ) (old full left : Image) → number < 2 ^ 64 → length payload < 2 ^ 64 → IsSlot slot → IsReady slot number old
    → IsFilled slot number payload old full → OneWrite slot 0 1 full left → IsOldOrNew slot number payload old left
opening slot number payload old full left lt fits which ready fills one =
    let around = both_beside slot old full left fills.around (beside slot (left slot) full left which one.others) in
    let torn = subst (λ (l : List ℕ). IsTorn 0 1 l (left slot)) fills.bytes one.torn in
    ⊎_elim (λ opened. inr (has_new slot number payload fills.rest old left lt fits which ready around opened)) (λ closed. inl (keeps_old slot number old left which ready around closed))
    (torn_open fills.gate (slot_head number (length payload) ++ (payload ++ fills.rest)) (left slot) torn)

-- and after it was opened
pub opened_new : (slot : DiskFile) (number : ℕ) (payload : List ℕ) (old full new : Image) → number < 2 ^ 64 → length payload < 2 ^ 64 → IsSlot slot → IsReady slot number old
    → IsFilled slot number payload old full → new ≡ with_file slot (overwritten 0 (1 ∷ []) (full slot)) full → HasNewRecord slot number payload old new
opened_new slot number payload old full new lt fits which ready fills is =
    let bytes = overwritten 0 (1 ∷ []) (full slot) in
    has_new slot number payload fills.rest old new lt fits which ready (both_beside slot old full new fills.around (beside slot bytes full new which is))
    (ap (λ (f : Image). f slot) is ∙ with_file_same slot bytes full ∙ ap (overwritten 0 (1 ∷ [])) fills.bytes)
