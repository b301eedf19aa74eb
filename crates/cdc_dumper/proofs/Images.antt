-- What images of an output have, by what is kept of them.
use Rattle.std.proofs.Common.{◌≡◌, ◌≢◌, ℕ, ◌+◌, ◌≤◌, ◌==◌, Bool, true, false, List, [], take, inl, inr, sym, ◌∙◌, ap, subst, arith}
use Rattle.std.specs.Prelude.{Option, None, Some, MatchOption, if◌then◌else◌}
use Rattle.std.proofs.lemmas.Bool.Decides.{nat_tests}
use Rattle.cdc_outside.specs.declared.disk_file.DiskFile.{DiskFile}
use Rattle.cdc_outside.specs.declared.disk_file.DiskFile.TheVariants.{SlotA, SlotB, Log}
use Rattle.cdc_outside.specs.Disk.{Image, KeepsFile, KeepsBelow}
use Rattle.cdc_cell.specs.Record.{CellRecord, bad_slot, kept_record, HasNewRecord, IsOldOrNew}
use Rattle.cdc_records.specs.declared.front.Front.{Front}
use Rattle.cdc_records.specs.Front.{no_front, front_number, front_bytes, HasFront, IsSoundFront, IsFrontRecord}
use Rattle.cdc_dumper.specs.Opening.{SameSlots}
use Rattle.cdc_dumper.specs.State.{keep_of, keep_alone}
use Rattle.cdc_dumper.specs.Moves.{StillHas, SameNext, HasCommitted, IsBeforeOrCommitted}

-- an image by its two slots
abbrev with_slots : List ℕ → List ℕ → Image
with_slots a b SlotA = a
with_slots a b SlotB = b
with_slots a b (Log number) = []

-- equal slots have equal records
pub same_bad : (old new : Image) → SameSlots old new → bad_slot new ≡ bad_slot old
same_bad old new same = let P : List ℕ → List ℕ → Option DiskFile = λ a b. bad_slot (with_slots a b) in ap (λ (a : List ℕ). P a (new SlotB)) same.first ∙ ap (λ (b : List ℕ). P (old SlotA) b) same.second

pub same_kept : (old new : Image) → SameSlots old new → kept_record new ≡ kept_record old
same_kept old new same = let P : List ℕ → List ℕ → Option CellRecord = λ a b. kept_record (with_slots a b) in ap (λ (a : List ℕ). P a (new SlotB)) same.first ∙ ap (λ (b : List ℕ). P (old SlotA) b) same.second

-- and so the same Front
pub front_by : (f : Front) (old new : Image) → bad_slot new ≡ bad_slot old → kept_record new ≡ kept_record old → HasFront old f → HasFront new f
front_by f old new bad kept has = record {
  cell = bad ∙ has.cell;
  kept = subst (λ (r : Option CellRecord). MatchOption r (f ≡ no_front) (λ r. IsFrontRecord r f)) (sym kept) has.kept;
}

pub same_front : (f : Front) (old new : Image) → SameSlots old new → HasFront old f → HasFront new f
same_front f old new same has = front_by f old new (same_bad old new same) (same_kept old new same) has

-- the file of a Front is kept up to its length
pub kept_here : (f : Front) → keep_of f (Log f.file) ≡ Some f.length
kept_here f = let e : (f.file == f.file) ≡ true = grind (arith, nat_tests) in ap (λ (b : Bool). if b then Some f.length else if f.file == f.file + 1 then Some 0 else None) e

pub kept_next : (f : Front) → keep_of f (Log (f.file + 1)) ≡ Some 0
kept_next f =
    let e : (f.file + 1 == f.file) ≡ false = grind (arith, nat_tests) in
    let g : (f.file + 1 == f.file + 1) ≡ true = grind (arith, nat_tests) in
    ap (λ (b : Bool). if b then Some f.length else if f.file + 1 == f.file + 1 then Some 0 else None) e ∙ ap (λ (b : Bool). if b then Some 0 else None) g

kept_else : (f : Front) (number : ℕ) → number ≢ f.file → number ≢ f.file + 1 → keep_of f (Log number) ≡ None
kept_else f number a b =
    let e : (number == f.file) ≡ false = grind (arith, nat_tests) in
    let g : (number == f.file + 1) ≡ false = grind (arith, nat_tests) in
    ap (λ (b : Bool). if b then Some f.length else if number == f.file + 1 then Some 0 else None) e ∙ ap (λ (b : Bool). if b then Some 0 else None) g

-- what is kept of a file, by the number that it stands for
keeps_as : (kept other : Option ℕ) (old left : List ℕ) → kept ≡ other → KeepsFile kept old left → KeepsFile other old left
keeps_as kept other old left e keeps = subst (λ (k : Option ℕ). KeepsFile k old left) e keeps

-- where what is to stay has stayed, what is published has
pub still_kept : (f : Front) (old image : Image) → HasFront old f → KeepsBelow (keep_of f) old image → StillHas f old image
still_kept f old image has keeps = record {
  front = same_front f old image record { first = keeps SlotA; second = keeps SlotB } has;
  file = (keeps_as (keep_of f (Log f.file)) (Some f.length) (old (Log f.file)) (image (Log f.file)) (kept_here f) (keeps (Log f.file))).1;
  others = λ number a b. keeps_as (keep_of f (Log number)) None (old (Log number)) (image (Log number)) (kept_else f number a b) (keeps (Log number));
}

-- while nothing was appended behind the Front's file, the next one stays
pub alone_here : (f : Front) → keep_alone f (Log f.file) ≡ Some f.length
alone_here f = let e : (f.file == f.file) ≡ true = grind (arith, nat_tests) in ap (λ (b : Bool). if b then Some f.length else None) e

alone_next : (f : Front) → keep_alone f (Log (f.file + 1)) ≡ None
alone_next f = let e : (f.file + 1 == f.file) ≡ false = grind (arith, nat_tests) in ap (λ (b : Bool). if b then Some f.length else None) e

pub next_kept : (f : Front) (old image : Image) → KeepsBelow (keep_alone f) old image → SameNext f old image
next_kept f old image keeps =
    keeps_as (keep_alone f (Log (f.file + 1))) None (old (Log (f.file + 1))) (image (Log (f.file + 1))) (alone_next f) (keeps (Log (f.file + 1)))

-- a store leaves all log files as they were
pub next_stored : (f : Front) (slot : DiskFile) (number : ℕ) (payload : List ℕ) (old image : Image) → IsOldOrNew slot number payload old image → SameNext f old image
next_stored f slot number payload old image (inl was) = was.logs (f.file + 1)
next_stored f slot number payload old image (inr new) = new.logs (f.file + 1)

-- a place behind what is to stay of the Front's file and of the next one
pub place_here : (f : Front) (file at : ℕ) → file ≡ f.file → f.length ≤ at → (n : ℕ) → keep_of f (Log file) ≡ Some n → n ≤ at
place_here f file at e le n is =
    let there : Some n ≡ Some f.length = sym is ∙ ap (λ (m : ℕ). keep_of f (Log m)) e ∙ kept_here f in
    let same : n ≡ f.length = cc in
    omega (arith, same, le)

-- a record of this Front makes it the image's
pub committed_by : (g : Front) (slot : DiskFile) (number : ℕ) (payload : List ℕ) (old new : Image) → IsSoundFront g → number ≡ front_number g → payload ≡ front_bytes g
    → HasNewRecord slot number payload old new → HasCommitted g old new
committed_by g slot number payload old new sound is bytes has = record {
  front = record {
    cell = has.sound;
    kept = subst (λ (r : Option CellRecord). MatchOption r (g ≡ no_front) (λ r. IsFrontRecord r g)) (sym has.kept) record { sound = sound; number = is; payload = bytes };
  };
  logs = has.logs;
}

-- a store leaves what was published before, or the new Front
pub before_or_committed : (f g : Front) (slot : DiskFile) (number : ℕ) (payload : List ℕ) (old image : Image) → HasFront old f → IsSoundFront g → number ≡ front_number g → payload ≡ front_bytes g
    → IsOldOrNew slot number payload old image → IsBeforeOrCommitted f g old image
before_or_committed f g slot number payload old image has sound is bytes (inl was) = inl record {
  front = front_by f old image (was.sound ∙ sym has.cell) was.kept has;
  file = ap (take f.length) (was.logs f.file);
  others = λ number _ _. was.logs number;
}
before_or_committed f g slot number payload old image has sound is bytes (inr new) = inr (committed_by g slot number payload old image sound is bytes new)
