-- What waits for lanes, and flags, place by place.
use Rattle.std.proofs.Common.{◌≡◌, ℕ, zero, suc, ◌<◌, Bool, true, false, ◌&&◌, List, [], ◌∷◌, length, map, get_or, set, refl, ◌∙◌, ap, arith, Option, Some, None, is_some, IfNone}
use Rattle.cdc_item.specs.declared.dump_item.DumpItem.{DumpItem}
use Rattle.cdc_merge_stage.specs.declared.merge_end.MergeEnd.{MergeEnd}
use Rattle.cdc_merge_stage.specs.declared.merge_end.MergeEnd.TheVariants.{Open, Whole, TooLarge, Memory}
use Rattle.cdc_merge_stage.specs.Merged.{all_true, all_none, merge_end_again}

-- where each place has one value
pub one_value : {A : Type 0} (xs ys : List A) (x d : A) → length xs ≡ length ys → ((k : ℕ) → k < length xs → get_or xs k d ≡ x) → xs ≡ map (λ _. x) ys
one_value [] [] x d long each = refl
one_value [] (y ∷ ys) x d long each = absurd (omega (arith, long))
one_value (x ∷ xs) [] v d long each = absurd (omega (arith, long))
one_value (x ∷ xs) (y ∷ ys) v d long each =
    ap (λ a. a ∷ xs) (each zero (omega arith)) ∙ ap (λ l. v ∷ l) (one_value xs ys v d (omega (arith, long)) (λ k within. each (suc k) (omega (arith, within))))

pub none_waits : (slots : List (Option DumpItem)) → ((k : ℕ) → k < length slots → is_some (get_or slots k None) ≡ false) → all_none slots ≡ true
none_waits [] each = refl
none_waits (None ∷ slots) each = none_waits slots (λ k within. each (suc k) (omega (arith, within)))
none_waits (Some item ∷ slots) each = absurd (let first = each zero (omega arith) in cc)

pub all_flags : (flags : List Bool) → ((k : ℕ) → k < length flags → get_or flags k true ≡ true) → all_true flags ≡ true
all_flags [] each = refl
all_flags (true ∷ flags) each = all_flags flags (λ k within. each (suc k) (omega (arith, within)))
all_flags (false ∷ flags) each = absurd (let first = each zero (omega arith) in cc)

pub ended_is : (took closing none : Bool) → (closing ≡ true → took ≡ true) → (took && (closing && none)) ≡ (closing && none)
ended_is true closing none all = refl
ended_is false true none all = absurd (let is = all refl in cc)
ended_is false false none all = refl

pub not_ended : (took closing none : Bool) → closing ≡ false → (took && (closing && none)) ≡ false
not_ended true true none is = absurd cc
not_ended true false none is = refl
not_ended false closing none is = refl

pub not_given : (took closing none : Bool) → none ≡ false → (took && (closing && none)) ≡ false
not_given true true none is = is
not_given true false none is = refl
not_given false closing none is = refl

-- where nothing waits and not all is done, the Ends aren't given
pub going_on : (took closing none : Bool) → (closing ≡ true → took ≡ true) → none ≡ true → (took && (closing && none)) ≡ false → closing ≡ false
going_on took false none all is ended = refl
going_on true true true all is ended = absurd cc
going_on true true false all is ended = absurd cc
going_on false true none all is ended = absurd (let t = all refl in cc)

pub flags_on : (flags : List Bool) (k : ℕ) → all_true flags ≡ true → all_true (set flags k true) ≡ true
flags_on [] k all = all
flags_on (true ∷ flags) zero all = all
flags_on (false ∷ flags) zero all = absurd cc
flags_on (true ∷ flags) (suc k) all = flags_on flags k all
flags_on (false ∷ flags) (suc k) all = absurd cc

pub if_none : {A : Type 0} (P Q : Type 0) (o : Option A) → (P → Q) → IfNone o P → IfNone o Q
if_none P Q None f p = f p
if_none P Q (Some x) f p = tt

pub clear_is : (xs ys : List (Option DumpItem)) → length xs ≡ length ys → all_none ys ≡ true → map (λ _. None) xs ≡ ys
clear_is [] [] long none = refl
clear_is [] (y ∷ ys) long none = absurd (omega (arith, long))
clear_is (x ∷ xs) [] long none = absurd (omega (arith, long))
clear_is (x ∷ xs) (None ∷ ys) long none = ap (λ (l : List (Option DumpItem)). None ∷ l) (clear_is xs ys (omega (arith, long)) none)
clear_is (x ∷ xs) (Some item ∷ ys) long none = absurd cc

pub never_whole : (e : MergeEnd) → merge_end_again e ≡ Whole → ⊥
never_whole Open is = cc
never_whole Whole is = cc
never_whole (TooLarge number bytes) is = cc
never_whole Memory is = cc
