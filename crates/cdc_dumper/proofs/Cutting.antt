-- What cuts leave of an image.
use Rattle.std.proofs.Common.{◌≡◌, ◌≢◌, ℕ, ◌+◌, ◌≤◌, ◌==◌, false, length, take, refl, sym, ◌∙◌, ap, subst, arith, length-take}
use Rattle.std.proofs.lemmas.Bool.Decides.{nat_tests}
use Rattle.cdc_outside.specs.declared.disk_file.DiskFile.{DiskFile}
use Rattle.cdc_outside.specs.declared.disk_file.DiskFile.TheVariants.{SlotA, SlotB, Log}
use Rattle.cdc_outside.specs.Disk.{Image, OneCut, with_file}
use Rattle.cdc_outside.proofs.Pending.{others_same, with_file_same, with_file_other}
use Rattle.std.proofs.Math.Seq.{take-length}
use Rattle.cdc_records.specs.declared.front.Front.{Front}
use Rattle.cdc_dumper.specs.Opening.{SameSlots, IsTrimmed, IsTrimmedTo}

-- where nothing was cut, a cut was done in no part
pub nothing_cut : (file : DiskFile) (to : ℕ) (seen image : Image) → to ≤ length (seen file) → image ≡ seen → OneCut file to seen image
nothing_cut file to seen image le e = subst (λ (i : Image). OneCut file to seen i) (sym e) record {
  others = others_same file seen seen (λ other differ. refl);
  front = refl;
  no_shorter = le;
  no_longer = omega arith;
}

-- what is off a log file that a cut left in part
off_slots : (number : ℕ) (old image : Image) → image ≡ with_file (Log number) (image (Log number)) old → SameSlots old image
off_slots number old image e = record { first = ap (λ (i : Image). i SlotA) e; second = ap (λ (i : Image). i SlotB) e }

off_logs : (number : ℕ) (old image : Image) → image ≡ with_file (Log number) (image (Log number)) old → (other : ℕ) → other ≢ number → image (Log other) ≡ old (Log other)
off_logs number old image e other ne =
    ap (λ (i : Image). i (Log other)) e ∙ with_file_other (Log number) (image (Log number)) old (Log other) (let t : (number == other) ≡ false = grind (arith, nat_tests) in t)

-- the image as it was has what the cuts leave
pub untrimmed : (f : Front) (old : Image) → IsTrimmed f old old
untrimmed f old = record { slots = record { first = refl; second = refl }; file = refl; others = λ number _ _. refl }

-- the first cut, in part
pub first_trimmed : (f : Front) (old image : Image) → OneCut (Log f.file) f.length old image → IsTrimmed f old image
first_trimmed f old image cut = record {
  slots = off_slots f.file old image cut.others;
  file = cut.front;
  others = λ number ne _. off_logs f.file old image cut.others number ne;
}

-- the second cut, in part, behind the first
pub second_trimmed : (f : Front) (old mid image : Image) → IsTrimmed f old mid → OneCut (Log (f.file + 1)) 0 mid image → IsTrimmed f old image
second_trimmed f old mid image before cut =
    let slots = off_slots (f.file + 1) mid image cut.others in
    record {
      slots = record { first = slots.first ∙ before.slots.first; second = slots.second ∙ before.slots.second };
      file = ap (take f.length) (off_logs (f.file + 1) mid image cut.others f.file (λ is. omega (arith, is))) ∙ before.file;
      others = λ number a b. off_logs (f.file + 1) mid image cut.others number b ∙ before.others number a b;
    }

-- a cut that is done is one that was done in part
pub done_cut : (file : DiskFile) (to : ℕ) (old new : Image) → to ≤ length (old file) → new ≡ with_file file (take to (old file)) old → OneCut file to old new
done_cut file to old new le e =
    let own : new file ≡ take to (old file) = ap (λ (i : Image). i file) e ∙ with_file_same file (take to (old file)) old in
    let size : length (take to (old file)) ≡ to = omega (arith, length-take to (old file)) in
    record {
      others = others_same file old new (λ other differ. ap (λ (i : Image). i other) e ∙ with_file_other file (take to (old file)) old other differ);
      front = ap (take to) own ∙ (ap (λ (n : ℕ). take n (take to (old file))) (sym size) ∙ take-length (take to (old file)));
      no_shorter = omega (arith, ap length own, size);
      no_longer = omega (arith, ap length own, size);
    }

-- both cuts done
pub trimmed_to : (f : Front) (old mid new : Image) → IsTrimmed f old mid → (1 ≤ f.file → mid (Log f.file) ≡ take f.length (old (Log f.file))) → new ≡ with_file (Log (f.file + 1)) (take 0 (mid (Log (f.file + 1)))) mid → IsTrimmedTo f old new
trimmed_to f old mid new before own e = record {
  trimmed = second_trimmed f old mid new before (done_cut (Log (f.file + 1)) 0 mid new (omega arith) e);
  file = λ some. ap (λ (i : Image). i (Log f.file)) e ∙ with_file_other (Log (f.file + 1)) (take 0 (mid (Log (f.file + 1)))) mid (Log f.file) (let t : (f.file + 1 == f.file) ≡ false = grind (arith, nat_tests) in t) ∙ own some;
  next = ap (λ (i : Image). i (Log (f.file + 1))) e ∙ with_file_same (Log (f.file + 1)) (take 0 (mid (Log (f.file + 1)))) mid;
}
