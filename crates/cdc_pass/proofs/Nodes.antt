-- Of the causes of nodes the first one, with one more.
use Rattle.std.proofs.Common.{◌≡◌, ℕ, zero, suc, ◌+◌, ◌<◌, ◌≤◌, ◌⊎◌, List, [], ◌∷◌, ◌++◌, length, get_or, take, refl, sym, ◌∙◌, ap, subst, arith}
use Rattle.cdc_node_stage.specs.Job.{SourcedStage}
use Rattle.cdc_opening.specs.declared.outcome.Outcome.{Outcome}
use Rattle.cdc_opening.specs.Outcomes.{ComesBefore}
use Rattle.cdc_windows.specs.Causes.{IsFirstPassCause}
use Rattle.cdc_windows.proofs.FirstCause.{first_more}
use Rattle.cdc_headline.specs.Ending.{cause_of_node, causes_of_nodes}

-- the causes of the first so many nodes, and the next one
cause_next : {S : Type 0} (jobs : List (SourcedStage S)) (n k : ℕ) (job : SourcedStage S) → k < length jobs → job ≡ get_or jobs k job → take (suc k) (causes_of_nodes n jobs) ≡ take k (causes_of_nodes n jobs) ++ cause_of_node (n + k) job.stage.reader.end ∷ []
cause_next [] n k job within is = absurd (omega (arith, within))
cause_next {S} (j ∷ jobs) n zero job within is =
    ap (λ (v : SourcedStage S). cause_of_node n v.stage.reader.end ∷ []) (sym is) ∙ ap (λ m. cause_of_node m job.stage.reader.end ∷ []) (let e : n ≡ n + 0 = omega arith in e)
cause_next (j ∷ jobs) n (suc k) job within is =
    ap (λ causes. cause_of_node n j.stage.reader.end ∷ causes)
    (cause_next jobs (n + 1) k job (omega (arith, within)) is ∙ ap (λ m. take k (causes_of_nodes (n + 1) jobs) ++ cause_of_node m job.stage.reader.end ∷ []) (let e : n + 1 + k ≡ n + suc k = omega arith in e))

-- one node more
pub node_more : {S : Type 0} (jobs : List (SourcedStage S)) (k : ℕ) (job : SourcedStage S) (first cause result : Outcome) → k < length jobs → job ≡ get_or jobs k job → IsFirstPassCause (take k (causes_of_nodes 1 jobs)) first
    → cause ≡ cause_of_node (k + 1) job.stage.reader.end → (result ≡ first) ⊎ (result ≡ cause) → (ComesBefore first result → ⊥) × (ComesBefore cause result → ⊥) → IsFirstPassCause (take (k + 1) (causes_of_nodes 1 jobs)) result
node_more jobs k job first cause result within is so_far of which never =
    let next = cause_next jobs 1 k job within is in
    let same : cause_of_node (1 + k) job.stage.reader.end ≡ cause = ap (λ m. cause_of_node m job.stage.reader.end) (let e : 1 + k ≡ k + 1 = omega arith in e) ∙ sym of in
    let list : take (suc k) (causes_of_nodes 1 jobs) ≡ take k (causes_of_nodes 1 jobs) ++ cause ∷ [] = next ∙ ap (λ c. take k (causes_of_nodes 1 jobs) ++ c ∷ []) same in
    subst (λ n. IsFirstPassCause (take n (causes_of_nodes 1 jobs)) result) (let e : suc k ≡ k + 1 = omega arith in e)
    (subst (λ causes. IsFirstPassCause causes result) (sym list) (first_more (take k (causes_of_nodes 1 jobs)) first cause result so_far which never.0 never.1))

-- all of them
pub all_nodes : {S : Type 0} (jobs : List (SourcedStage S)) (n k : ℕ) → length jobs ≤ k → take k (causes_of_nodes n jobs) ≡ causes_of_nodes n jobs
all_nodes [] n zero le = refl
all_nodes [] n (suc k) le = refl
all_nodes (j ∷ jobs) n zero le = absurd (omega (arith, le))
all_nodes (j ∷ jobs) n (suc k) le = ap (λ causes. cause_of_node n j.stage.reader.end ∷ causes) (all_nodes jobs (n + 1) k (omega (arith, le)))
