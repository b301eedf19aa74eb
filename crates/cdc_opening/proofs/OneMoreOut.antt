-- One output more is opened, or refused.
use Rattle.std.proofs.Common.{◌≡◌, ℕ, zero, suc, ◌+◌, ◌-◌, ◌<◌, ◌≤◌, Bool, IsTrue, List, [], ◌∷◌, ◌++◌, length, get_or, set, map, take, Some, sym, ◌∙◌, ap, subst, arith}
use Rattle.std.specs.Prelude.{slice_get}
use Rattle.std.specs.List.{AllByRecursion}
use Rattle.std.proofs.lemmas.List.{length-map, get_or-map}
use Rattle.cdc_outside.specs.Disk.{Image}
use Rattle.cdc_opening.specs.declared.outcome.Outcome.{Outcome}
use Rattle.cdc_opening.specs.declared.outcome.Outcome.TheVariants.{Done, Disk, TaskDisk, Read, Memory, TooLarge, Node, Open, Task, Behind, Differs, Key}
use Rattle.cdc_opening.specs.OpenOuts.{OpenBefore, CanOpen}
use Rattle.cdc_opening.specs.OutAnswers.{IsOutAnswer, IsOutsAnswer}
use Rattle.cdc_opening.proofs.Zips.{each_before, at_place}

-- one more of three lists, the last of which is written at its place
pub opened_more : {A B : Type 0} (R : A → B → A → Type 0) (olds outs : List A) (ds : List B) (k : ℕ) (old new : A) (dumper : B) → length ds ≡ k → length outs ≡ length olds → k < length olds
    → ((j : ℕ) (d : A) (e : B) (f : A) → j < k → R (get_or olds j d) (get_or ds j e) (get_or outs j f)) → old ≡ get_or olds k old → R old dumper new
    → (j : ℕ) (d : A) (e : B) (f : A) → j < k + 1 → R (get_or olds j d) (get_or (ds ++ dumper ∷ []) j e) (get_or (set outs k new) j f)
opened_more R [] outs ds k old new dumper many long within each is one j d e f below = absurd (omega (arith, within))
opened_more R (o ∷ olds) [] ds k old new dumper many long within each is one j d e f below = absurd (omega (arith, long))
opened_more R (o ∷ olds) (x ∷ outs) (b ∷ ds) zero old new dumper many long within each is one j d e f below = absurd (omega (arith, many))
opened_more R (o ∷ olds) (x ∷ outs) [] (suc k) old new dumper many long within each is one j d e f below = absurd (omega (arith, many))
opened_more R (o ∷ olds) (x ∷ outs) [] zero old new dumper many long within each is one zero d e f below = subst (λ v. R v dumper new) is one
opened_more R (o ∷ olds) (x ∷ outs) [] zero old new dumper many long within each is one (suc j) d e f below = absurd (omega (arith, below))
opened_more R (o ∷ olds) (x ∷ outs) (b ∷ ds) (suc k) old new dumper many long within each is one zero d e f below = each zero d e f (omega arith)
opened_more R (o ∷ olds) (x ∷ outs) (b ∷ ds) (suc k) old new dumper many long within each is one (suc j) d e f below =
    opened_more R olds outs ds k old new dumper (omega (arith, many)) (omega (arith, long)) (omega (arith, within)) (λ i d e f lt. each (suc i) d e f (omega (arith, lt))) is one j d e f (omega (arith, below))

-- a list has an item at each of its places
pub item_at : {A : Type 0} (xs : List A) (k : ℕ) → k < length xs → A
item_at [] k within = absurd (omega (arith, within))
item_at (x ∷ xs) zero within = x
item_at (x ∷ xs) (suc k) within = item_at xs k (omega (arith, within))

-- the output of a place is there, and all before it can be opened
pub open_before : {D : Type 0} (seen : D → Image) (olds : List D) (k : ℕ) → k < length olds → ((j : ℕ) (d : D) → j < k → CanOpen (seen (get_or olds j d))) → OpenBefore (map seen olds) (k + 1)
open_before seen olds k within each = record {
  first = omega arith;
  last = let long = length-map olds seen in omega (arith, long, within);
  before =
      subst (λ n. AllByRecursion CanOpen (take n (map seen olds))) (let e : k ≡ k + 1 - 1 = omega arith in e)
      (each_before seen CanOpen olds k (let h : k ≤ length olds = omega (arith, within) in h) each);
}

-- what is seen of the output of a place
pub seen_at : {D : Type 0} (seen : D → Image) (olds : List D) (k : ℕ) (old : D) → k < length olds → old ≡ get_or olds k old → slice_get (map seen olds) (k + 1 - 1) ≡ Some (seen old)
seen_at seen olds k old within is =
    subst (λ n. slice_get (map seen olds) n ≡ Some (seen old)) (let e : k ≡ k + 1 - 1 = omega arith in e)
    (at_place (map seen olds) k (seen old) (let long = length-map olds seen in omega (arith, long, within)) (ap seen is ∙ sym (get_or-map seen olds k old (seen old) within)))

-- what one output is refused for, all are
pub one_refused : (told : Bool) (images : List Image) (image : Image) (number : ℕ) (e : Outcome) → (IsTrue told → OpenBefore images number) → slice_get images (number - 1) ≡ Some image → IsOutAnswer told image number e → IsOutsAnswer told images e
one_refused told images image number Done before there a = absurd a
one_refused told images image number (Disk out) before there a = λ is. subst (λ n. OpenBefore images n) (sym a) (before is)
one_refused told images image number TaskDisk before there a = absurd a
one_refused told images image number (Read node) before there a = absurd a
one_refused told images image number Memory before there a = absurd a
one_refused told images image number (TooLarge of bytes) before there a = absurd a
one_refused told images image number (Node node place fault) before there a = absurd a
one_refused told images image number (Open out fault) before there a = λ is. record {
  before = subst (λ n. OpenBefore images n) (sym a.0) (before is);
  image = image;
  there = subst (λ n. slice_get images (n - 1) ≡ Some image) (sym a.0) there;
  refused = a.1 is;
}
one_refused told images image number (Task fault) before there a = absurd a
one_refused told images image number (Behind node kept given) before there a = absurd a
one_refused told images image number (Differs out kept given) before there a = absurd a
one_refused told images image number (Key out kept given) before there a = absurd a
