-- Of causes the first one, with one more.
use Rattle.std.proofs.Common.{◌≡◌, ℕ, zero, suc, ◌+◌, ◌<◌, ◌≤◌, ◌⊎◌, inl, inr, List, [], ◌∷◌, ◌++◌, length, get_or, take, refl, sym, ◌∙◌, ap, subst, arith}
use Rattle.std.specs.List.{AllByRecursion}
use Rattle.cdc_dump_stage.specs.Job.{StagedDisk}
use Rattle.cdc_opening.specs.declared.outcome.Outcome.{Outcome}
use Rattle.cdc_opening.specs.Outcomes.{place_of_outcome, number_of_outcome, ComesBefore}
use Rattle.cdc_windows.specs.Causes.{cause_of_out, causes_of_outs, IsOneOf, IsFirstPassCause}

not_less : (x y : ℕ) → (x < y → ⊥) → y ≤ x
not_less x y never = omega (arith, never)

-- the order by place, then number: what isn't before a second that isn't before a third isn't before the third
not_before : (p n q m r k : ℕ) → ((p < q) ⊎ ((p ≡ q) × (n < m)) → ⊥) → ((q < r) ⊎ ((q ≡ r) × (m < k)) → ⊥) → (p < r) ⊎ ((p ≡ r) × (n < k)) → ⊥
not_before p n q m r k first second (inl less) =
    let a : q ≤ p = not_less p q (λ h. first (inl h)) in
    let b : r ≤ q = not_less q r (λ h. second (inl h)) in
    omega (arith, less, a, b)
not_before p n q m r k first second (inr both) =
    let same = both.0 in
    let less = both.1 in
    let a : q ≤ p = not_less p q (λ h. first (inl h)) in
    let b : r ≤ q = not_less q r (λ h. second (inl h)) in
    let pq : p ≡ q = omega (arith, same, a, b) in
    let qr : q ≡ r = omega (arith, same, a, b) in
    let c : m ≤ n = not_less n m (λ h. first (inr (pq, h))) in
    let d : k ≤ m = not_less m k (λ h. second (inr (qr, h))) in
    omega (arith, less, c, d)

one_still : (first cause : Outcome) (causes : List Outcome) → IsOneOf first causes → IsOneOf first (causes ++ cause ∷ [])
one_still first cause [] is = inr is
one_still first cause (c ∷ causes) (inl here) = inl here
one_still first cause (c ∷ causes) (inr there) = inr (one_still first cause causes there)

one_new : (cause : Outcome) (causes : List Outcome) → IsOneOf cause (causes ++ cause ∷ [])
one_new cause [] = inl refl
one_new cause (c ∷ causes) = inr (one_new cause causes)

none_still : (first result : Outcome) (causes : List Outcome) (cause : Outcome) → (ComesBefore first result → ⊥) → (ComesBefore cause result → ⊥) → AllByRecursion (λ (c : Outcome). ComesBefore c first → ⊥) causes
    → AllByRecursion (λ (c : Outcome). ComesBefore c result → ⊥) (causes ++ cause ∷ [])
none_still first result [] cause not_first not_cause none = (not_cause, tt)
none_still first result (c ∷ causes) cause not_first not_cause none = (
  not_before (place_of_outcome c) (number_of_outcome c) (place_of_outcome first) (number_of_outcome first) (place_of_outcome result) (number_of_outcome result) none.0 not_first,
  none_still first result causes cause not_first not_cause none.1,
)

pub first_more : (causes : List Outcome) (first cause result : Outcome) → IsFirstPassCause causes first → (result ≡ first) ⊎ (result ≡ cause) → (ComesBefore first result → ⊥) → (ComesBefore cause result → ⊥) → IsFirstPassCause (causes ++ cause ∷ []) result
first_more causes first cause result so_far (inl old) not_first not_cause = record {
  one = subst (λ (o : Outcome). IsOneOf o (causes ++ cause ∷ [])) (sym old) (one_still first cause causes so_far.one);
  none_before = none_still first result causes cause not_first not_cause so_far.none_before;
}
first_more causes first cause result so_far (inr new) not_first not_cause = record {
  one = subst (λ (o : Outcome). IsOneOf o (causes ++ cause ∷ [])) (sym new) (one_new cause causes);
  none_before = none_still first result causes cause not_first not_cause so_far.none_before;
}

cause_next : {D : Type 0} (dumps : List (StagedDisk D)) (n k : ℕ) (job : StagedDisk D) → k < length dumps → job ≡ get_or dumps k job → take (suc k) (causes_of_outs n dumps) ≡ take k (causes_of_outs n dumps) ++ cause_of_out (n + k) job.stage.end ∷ []
cause_next [] n k job within is = absurd (omega (arith, within))
cause_next (d ∷ dumps) n zero job within is =
    ap (λ (j : StagedDisk _). cause_of_out n j.stage.end ∷ []) (sym is) ∙ ap (λ m. cause_of_out m job.stage.end ∷ []) (let e : n ≡ n + 0 = omega arith in e)
cause_next {D} (d ∷ dumps) n (suc k) job within is =
    ap (λ causes. cause_of_out n d.stage.end ∷ causes)
    (cause_next dumps (n + 1) k job (omega (arith, within)) is ∙ ap (λ m. take k (causes_of_outs (n + 1) dumps) ++ cause_of_out m job.stage.end ∷ []) (let e : n + 1 + k ≡ n + suc k = omega arith in e))

-- one output more
pub causes_more : {D : Type 0} (dumps : List (StagedDisk D)) (k : ℕ) (job : StagedDisk D) (first cause result : Outcome) → k < length dumps → job ≡ get_or dumps k job → IsFirstPassCause (take k (causes_of_outs 1 dumps)) first
    → cause ≡ cause_of_out (k + 1) job.stage.end → (result ≡ first) ⊎ (result ≡ cause) → (ComesBefore first result → ⊥) × (ComesBefore cause result → ⊥) → IsFirstPassCause (take (k + 1) (causes_of_outs 1 dumps)) result
causes_more dumps k job first cause result within is so_far of which never =
    let next = cause_next dumps 1 k job within is in
    let same : cause_of_out (1 + k) job.stage.end ≡ cause = ap (λ m. cause_of_out m job.stage.end) (let e : 1 + k ≡ k + 1 = omega arith in e) ∙ sym of in
    let list : take (suc k) (causes_of_outs 1 dumps) ≡ take k (causes_of_outs 1 dumps) ++ cause ∷ [] = next ∙ ap (λ c. take k (causes_of_outs 1 dumps) ++ c ∷ []) same in
    subst (λ n. IsFirstPassCause (take n (causes_of_outs 1 dumps)) result) (let e : suc k ≡ k + 1 = omega arith in e)
    (subst (λ causes. IsFirstPassCause causes result) (sym list) (first_more (take k (causes_of_outs 1 dumps)) first cause result so_far which never.0 never.1))

-- all of them
pub all_causes : {D : Type 0} (dumps : List (StagedDisk D)) (n k : ℕ) → length dumps ≤ k → take k (causes_of_outs n dumps) ≡ causes_of_outs n dumps
all_causes [] n zero le = refl
all_causes [] n (suc k) le = refl
all_causes (d ∷ dumps) n zero le = absurd (omega (arith, le))
all_causes (d ∷ dumps) n (suc k) le = ap (λ causes. cause_of_out n d.stage.end ∷ causes) (all_causes dumps (n + 1) k (omega (arith, le)))
