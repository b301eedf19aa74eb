-- What a crash may leave of files that few changes are pending of.
use Rattle.std.proofs.Common.{◌≡◌, ◌⊎◌, inl, inr, ℕ, ◌+◌, ◌≤◌, ◌<◌, min, max, true, false, if◌then◌else◌}
use Rattle.std.proofs.Common.{List, [], ◌∷◌, ◌++◌, length, take, drop, refl, sym, ◌∙◌, ap, subst, arith, length-drop, length-take}
use Rattle.std.proofs.lemmas.Bool.{cases_Bool}
use Rattle.std.proofs.lemmas.Bool.Decides.{nat_tests}
use Rattle.std.proofs.lemmas.Grind.{same_number_lists}
use Rattle.std.proofs.lemmas.List.{get_or-take, get_or-drop}
use Rattle.std.specs.Prelude.{⊤}
use Rattle.cdc_outside.specs.declared.disk_file.DiskFile.{DiskFile}
use Rattle.cdc_outside.specs.declared.disk_file.DiskFile.TheVariants.{SlotA, SlotB, Log}
use Rattle.cdc_outside.specs.Disk.{Image, Change, Wrote, CutTo, MayLeave, IsDurable, Begins, IsTorn, OneWrite, OneCut, same_file, with_file, shortest, longest, is_written}

-- files are told apart by `same_file`
pub same_file_is : (file other : DiskFile) → same_file file other ≡ true → file ≡ other
same_file_is SlotA SlotA e = refl
same_file_is SlotB SlotB e = refl
same_file_is (Log number) (Log other) e = let same : number ≡ other = grind (arith, nat_tests) in ap (λ n. Log n) same
same_file_is SlotA SlotB e = absurd (cc)
same_file_is SlotA (Log other) e = absurd (cc)
same_file_is SlotB SlotA e = absurd (cc)
same_file_is SlotB (Log other) e = absurd (cc)
same_file_is (Log number) SlotA e = absurd (cc)
same_file_is (Log number) SlotB e = absurd (cc)

pub same_file_self : (file : DiskFile) → same_file file file ≡ true
same_file_self SlotA = refl
same_file_self SlotB = refl
same_file_self (Log number) = grind (arith, nat_tests)

pub with_file_same : {A : Type 0} (file : DiskFile) (value : A) (files : DiskFile → A) → with_file file value files file ≡ value
with_file_same file value files = ap (λ b. if b then value else files file) (same_file_self file)

pub with_file_other : {A : Type 0} (file : DiskFile) (value : A) (files : DiskFile → A) (other : DiskFile) → same_file file other ≡ false → with_file file value files other ≡ files other
with_file_other file value files other e = ap (λ b. if b then value else files other) e

-- two images that agree on one file's others
pub others_same : (file : DiskFile) (old left : Image) → ((other : DiskFile) → same_file file other ≡ false → left other ≡ old other) → left ≡ with_file file (left file) old
others_same file old left same = λ i other. at other i
  where
    at : (other : DiskFile) → left other ≡ with_file file (left file) old other
    at other = elim (cases_Bool (same_file file other)) [
      | inl is ↦ ap left (sym (same_file_is file other is)) ∙ sym (ap (λ b. if b then left file else old other) is)
      | inr isnt ↦ same other isnt ∙ sym (with_file_other file (left file) old other isnt)
    ]

-- nothing pending leaves what was synced
pub as_synced : (synced left : List ℕ) → MayLeave synced [] left → left ≡ synced
as_synced synced left may = same_number_lists left synced (omega (arith, may.no_shorter, may.no_longer)) (λ k le. may.same k (omega (arith, may.no_longer, le)) refl)

-- all changes are writes within a range
abbrev pub AreWithin : ℕ → ℕ → List Change → Type 0
AreWithin at count [] = ⊤
AreWithin at count (Wrote from size ∷ changes) = (at ≤ from) × (from + size ≤ at + count) × AreWithin at count changes
AreWithin at count (CutTo to ∷ changes) = ⊥

pub within_more : (at count : ℕ) (changes : List Change) (from size : ℕ) → AreWithin at count changes → at ≤ from → from + size ≤ at + count → AreWithin at count (changes ++ Wrote from size ∷ [])
within_more at count [] from size are low high = (low, high, tt)
within_more at count (Wrote a b ∷ changes) from size are low high = (are.0, are.1, within_more at count changes from size are.2 low high)
within_more at count (CutTo to ∷ changes) from size are low high = absurd are

within_shortest : (at count synced : ℕ) (changes : List Change) → AreWithin at count changes → shortest synced changes ≡ synced
within_shortest at count synced [] are = refl
within_shortest at count synced (Wrote a b ∷ changes) are = within_shortest at count synced changes are.2
within_shortest at count synced (CutTo to ∷ changes) are = absurd are

within_longest : (at count synced : ℕ) (changes : List Change) → AreWithin at count changes → longest synced changes ≤ max (at + count) synced
within_longest at count synced [] are = omega arith
within_longest at count synced (Wrote a b ∷ changes) are = omega (arith, within_longest at count synced changes are.2, are.1)
within_longest at count synced (CutTo to ∷ changes) are = absurd are

within_outside : (at count place : ℕ) (changes : List Change) → AreWithin at count changes → (place < at) ⊎ (at + count ≤ place) → is_written place changes ≡ false
within_outside at count place [] are out = refl
within_outside at count place (Wrote a b ∷ changes) are out =
    let rest = within_outside at count place changes are.2 out in
    let low = are.0 in
    let high = are.1 in
    grind (arith, nat_tests)
within_outside at count place (CutTo to ∷ changes) are out = absurd are

-- so a crash leaves one write of the range, done in part
pub is_torn : (at count : ℕ) (synced left : List ℕ) (changes : List Change) → at ≤ length synced → AreWithin at count changes → MayLeave synced changes left → IsTorn at count synced left
is_torn at count synced left changes place are may =
    let short = within_shortest at count (length synced) changes are in
    let long = within_longest at count (length synced) changes are in
    let no_shorter : length synced ≤ length left = omega (arith, short, may.no_shorter) in
    let no_longer : length left ≤ max (at + count) (length synced) = omega (arith, long, may.no_longer) in
    record {
      front = same_number_lists (take at left) (take at synced) (omega (arith, length-take at left, length-take at synced)) (λ k le.
          let within : k < at = omega (arith, length-take at left) in
          get_or-take at left k 0 within ∙ may.same k (omega (arith, short)) (within_outside at count k changes are (inl within)) ∙ sym (get_or-take at synced k 0 within));
      rest = same_number_lists (drop (at + count) left) (drop (at + count) synced) (omega (arith, length-drop (at + count) left, length-drop (at + count) synced)) (λ k le.
          let within : at + count + k < length synced = omega (arith, length-drop (at + count) left) in
          get_or-drop (at + count) left k 0 ∙ may.same (at + count + k) (omega (arith, short)) (within_outside at count (at + count + k) changes are (inr (omega arith))) ∙ sym (get_or-drop (at + count) synced k 0));
      no_shorter = no_shorter;
      no_longer = no_longer;
    }

-- all changes are cuts, none of them below a length
abbrev pub AreCuts : ℕ → List Change → Type 0
AreCuts to [] = ⊤
AreCuts to (Wrote from size ∷ changes) = ⊥
AreCuts to (CutTo other ∷ changes) = (to ≤ other) × AreCuts to changes

pub cuts_more : (to : ℕ) (changes : List Change) → AreCuts to changes → AreCuts to (changes ++ CutTo to ∷ [])
cuts_more to [] are = (omega arith, tt)
cuts_more to (Wrote a b ∷ changes) are = absurd are
cuts_more to (CutTo other ∷ changes) are = (are.0, cuts_more to changes are.1)

cuts_shortest : (to synced : ℕ) (changes : List Change) → AreCuts to changes → min to synced ≤ shortest synced changes
cuts_shortest to synced [] are = omega arith
cuts_shortest to synced (Wrote a b ∷ changes) are = absurd are
cuts_shortest to synced (CutTo other ∷ changes) are = omega (arith, cuts_shortest to synced changes are.1, are.0)

cuts_longest : (to synced : ℕ) (changes : List Change) → AreCuts to changes → longest synced changes ≡ synced
cuts_longest to synced [] are = refl
cuts_longest to synced (Wrote a b ∷ changes) are = absurd are
cuts_longest to synced (CutTo other ∷ changes) are = cuts_longest to synced changes are.1

cuts_unwritten : (to place : ℕ) (changes : List Change) → AreCuts to changes → is_written place changes ≡ false
cuts_unwritten to place [] are = refl
cuts_unwritten to place (Wrote a b ∷ changes) are = absurd are
cuts_unwritten to place (CutTo other ∷ changes) are = cuts_unwritten to place changes are.1

-- of one file, changes that have Q, and of no other
pub record Pends (file : DiskFile) (Q : List Change → Type 0) (pending : DiskFile → List Change) : Type 0 where
  pub own : Q (pending file)
  pub others : (other : DiskFile) → same_file file other ≡ false → pending other ≡ []

pub pends_nothing : (file : DiskFile) (Q : List Change → Type 0) (pending : DiskFile → List Change) → Q [] → ((other : DiskFile) → pending other ≡ []) → Pends file Q pending
pends_nothing file Q pending none nothing = record { own = subst Q (sym (nothing file)) none; others = λ other isnt. nothing other }

-- one change more
pub pends_more : (file : DiskFile) (Q : List Change → Type 0) (change : Change) (old new : DiskFile → List Change) → Pends file Q old → Begins file change old new
    → ((changes : List Change) → Q changes → Q (changes ++ change ∷ [])) → Pends file Q new
pends_more file Q change old new pends (inl same) more = subst (Pends file Q) (sym same) pends
pends_more file Q change old new pends (inr begun) more = subst (Pends file Q) (sym begun) record {
  own = subst Q (sym (with_file_same file (old file ++ change ∷ []) old)) (more (old file) pends.own);
  others = λ other isnt. with_file_other file (old file ++ change ∷ []) old other isnt ∙ pends.others other isnt;
}

-- an image of each file by the model
abbrev pub Leaves : Image → (DiskFile → List Change) → Image → Type 0
Leaves synced pending image = (file : DiskFile) → MayLeave (synced file) (pending file) (image file)

other_left : (file : DiskFile) (Q : List Change → Type 0) (seen : Image) (pending : DiskFile → List Change) (image : Image) → Pends file Q pending → Leaves seen pending image
    → (other : DiskFile) → same_file file other ≡ false → image other ≡ seen other
other_left file Q seen pending image pends leaves other isnt =
    as_synced (seen other) (image other) (subst (λ cs. MayLeave (seen other) cs (image other)) (pends.others other isnt) (leaves other))

pub one_write : (file : DiskFile) (at count : ℕ) (seen : Image) (pending : DiskFile → List Change) (image : Image) → at ≤ length (seen file)
    → Pends file (AreWithin at count) pending → Leaves seen pending image → OneWrite file at count seen image
one_write file at count seen pending image place pends leaves = record {
  others = others_same file seen image (other_left file (AreWithin at count) seen pending image pends leaves);
  torn = is_torn at count (seen file) (image file) (pending file) place pends.own (leaves file);
}

pub one_cut : (file : DiskFile) (to : ℕ) (seen : Image) (pending : DiskFile → List Change) (image : Image) → to ≤ length (seen file)
    → Pends file (AreCuts to) pending → Leaves seen pending image → OneCut file to seen image
one_cut file to seen pending image place pends leaves =
    let may = leaves file in
    let short = cuts_shortest to (length (seen file)) (pending file) pends.own in
    let long = cuts_longest to (length (seen file)) (pending file) pends.own in
    let no_shorter : to ≤ length (image file) = omega (arith, short, may.no_shorter) in
    record {
      others = others_same file seen image (other_left file (AreCuts to) seen pending image pends leaves);
      front = same_number_lists (take to (image file)) (take to (seen file)) (omega (arith, length-take to (image file), length-take to (seen file))) (λ k le.
          let within : k < to = omega (arith, length-take to (image file)) in
          get_or-take to (image file) k 0 within ∙ may.same k (omega (arith, short)) (cuts_unwritten to k (pending file) pends.own) ∙ sym (get_or-take to (seen file) k 0 within));
      no_shorter = no_shorter;
      no_longer = omega (arith, long, may.no_longer);
    }

-- a disk on which nothing is pending leaves what is seen
pub durable_left : (seen synced : Image) (pending : DiskFile → List Change) (image : Image) → IsDurable seen synced pending → Leaves synced pending image → image ≡ seen
durable_left seen synced pending image durable leaves = λ i file. at file i
  where
    at : (file : DiskFile) → image file ≡ seen file
    at file = as_synced (synced file) (image file) (subst (λ cs. MayLeave (synced file) cs (image file)) (durable.nothing file) (leaves file)) ∙ ap (λ (f : Image). f file) durable.whole
