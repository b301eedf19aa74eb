-- Of causes the first one, with one before all others; none of those of windows is a refusal of an opening.
use Rattle.std.proofs.Common.{◌≡◌, ℕ, ◌+◌, ◌<◌, ◌≤◌, ◌⊎◌, inl, inr, true, false, Bool, List, [], ◌∷◌, ◌++◌, sym, subst, arith}
use Rattle.std.specs.List.{AllByRecursion}
use Rattle.cdc_dump_stage.specs.declared.dump_end.DumpEnd.{DumpEnd}
use Rattle.cdc_dump_stage.specs.declared.dump_end.DumpEnd.TheVariants as dumping
use Rattle.cdc_dump_stage.specs.Job.{StagedDisk}
use Rattle.cdc_merge_stage.specs.declared.merge_end.MergeEnd.{MergeEnd}
use Rattle.cdc_merge_stage.specs.declared.merge_end.MergeEnd.TheVariants as merging
use Rattle.cdc_node_stage.specs.Job.{SourcedStage}
use Rattle.cdc_opening.specs.declared.outcome.Outcome.{Outcome}
use Rattle.cdc_opening.specs.declared.outcome.Outcome.TheVariants.{TaskDisk, Memory}
use Rattle.cdc_opening.specs.Outcomes.{place_of_outcome, number_of_outcome, ComesBefore}
use Rattle.cdc_reader.specs.declared.step.NodeEnd.{NodeEnd}
use Rattle.cdc_reader.specs.declared.step.NodeEnd.TheVariants as reading
use Rattle.cdc_windows.specs.Causes.{IsOneOf, IsFirstPassCause, cause_of_out, causes_of_outs, also_cause, causes_of_pass}
use Rattle.cdc_windows.proofs.FirstCause.{first_more}
use Rattle.cdc_headline.specs.Ending.{cause_of_node, causes_of_nodes, cause_of_merge, IsRefusedOpening}

-- what isn't less is at least as great
not_less : (x y : ℕ) → (x < y → ⊥) → y ≤ x
not_less x y never = omega (arith, never)

-- the order by place, then number: what isn't before a second that isn't before a third isn't before the third
not_before : (p n q m r k : ℕ) → ((p < q) ⊎ ((p ≡ q) × (n < m)) → ⊥) → ((q < r) ⊎ ((q ≡ r) × (m < k)) → ⊥) → (p < r) ⊎ ((p ≡ r) × (n < k)) → ⊥
not_before p n q m r k first second (inl less) =
    let a : q ≤ p = not_less p q (λ h. first (inl h)) in
    let b : r ≤ q = not_less q r (λ h. second (inl h)) in
    omega (arith, less, a, b)
not_before p n q m r k first second (inr both) =
    let same = both.0 in
    let less = both.1 in
    let a : q ≤ p = not_less p q (λ h. first (inl h)) in
    let b : r ≤ q = not_less q r (λ h. second (inl h)) in
    let pq : p ≡ q = omega (arith, same, a, b) in
    let qr : q ≡ r = omega (arith, same, a, b) in
    let c : m ≤ n = not_less n m (λ h. first (inr (pq, h))) in
    let d : k ≤ m = not_less m k (λ h. second (inr (qr, h))) in
    omega (arith, less, c, d)

-- what isn't before the first of these isn't before one that the first isn't before
none_still : (first result : Outcome) (causes : List Outcome) → (ComesBefore first result → ⊥) → AllByRecursion (λ (c : Outcome). ComesBefore c first → ⊥) causes → AllByRecursion (λ (c : Outcome). ComesBefore c result → ⊥) causes
none_still first result [] not_first none = tt
none_still first result (c ∷ causes) not_first none = (
  not_before (place_of_outcome c) (number_of_outcome c) (place_of_outcome first) (number_of_outcome first) (place_of_outcome result) (number_of_outcome result) none.0 not_first,
  none_still first result causes not_first none.1,
)

-- one cause before all others
pub first_behind : (causes : List Outcome) (first cause result : Outcome) → IsFirstPassCause causes first → (result ≡ cause) ⊎ (result ≡ first) → (ComesBefore cause result → ⊥) × (ComesBefore first result → ⊥) → IsFirstPassCause (cause ∷ causes) result
first_behind causes first cause result so_far (inl here) never = record {
  one = inl here;
  none_before = (never.0, none_still first result causes never.1 so_far.none_before);
}
first_behind causes first cause result so_far (inr there) never = record {
  one = inr (subst (λ (o : Outcome). IsOneOf o causes) (sym there) so_far.one);
  none_before = (never.0, none_still first result causes never.1 so_far.none_before);
}

-- one of these that are no refusals of an opening
one_unrefused : (first : Outcome) (causes : List Outcome) → AllByRecursion (λ (c : Outcome). IsRefusedOpening c → ⊥) causes → IsOneOf first causes → IsRefusedOpening first → ⊥
one_unrefused first [] all one refused = subst (λ (o : Outcome). IsRefusedOpening o) one refused
one_unrefused first (c ∷ causes) all (inl here) refused = all.0 (subst (λ (o : Outcome). IsRefusedOpening o) here refused)
one_unrefused first (c ∷ causes) all (inr there) refused = one_unrefused first causes all.1 there refused

-- two lists of such causes, one behind the other
both_unrefused : (xs ys : List Outcome) → AllByRecursion (λ (c : Outcome). IsRefusedOpening c → ⊥) xs → AllByRecursion (λ (c : Outcome). IsRefusedOpening c → ⊥) ys → AllByRecursion (λ (c : Outcome). IsRefusedOpening c → ⊥) (xs ++ ys)
both_unrefused [] ys all more = more
both_unrefused (x ∷ xs) ys all more = (all.0, both_unrefused xs ys all.1 more)

-- the end of an output's stage is no refusal
out_unrefused : (out : ℕ) (e : DumpEnd) → IsRefusedOpening (cause_of_out out e) → ⊥
out_unrefused out dumping.Open refused = absurd refused
out_unrefused out dumping.Whole refused = absurd refused
out_unrefused out dumping.Disk refused = absurd refused
out_unrefused out (dumping.Differs kept given) refused = absurd refused
out_unrefused out (dumping.Key kept given) refused = absurd refused

-- nor are the ends of all
outs_unrefused : {D : Type 0} (out : ℕ) (dumps : List (StagedDisk D)) → AllByRecursion (λ (c : Outcome). IsRefusedOpening c → ⊥) (causes_of_outs out dumps)
outs_unrefused out [] = tt
outs_unrefused out (d ∷ dumps) = (out_unrefused out d.stage.end, outs_unrefused (out + 1) dumps)

-- nor is one cause more
also_unrefused : (also : Bool) (cause : Outcome) → (IsRefusedOpening cause → ⊥) → AllByRecursion (λ (c : Outcome). IsRefusedOpening c → ⊥) (also_cause also cause)
also_unrefused true cause never = (never, tt)
also_unrefused false cause never = tt

-- the cause of windows is no refusal of an opening
pass_unrefused : {D : Type 0} (dumps : List (StagedDisk D)) (failed wanting : Bool) (cause : Outcome) → IsFirstPassCause (causes_of_pass dumps failed wanting) cause → IsRefusedOpening cause → ⊥
pass_unrefused dumps failed wanting cause is =
    one_unrefused cause (causes_of_pass dumps failed wanting)
    (both_unrefused (causes_of_outs 1 dumps ++ also_cause failed TaskDisk) (also_cause wanting Memory)
    (both_unrefused (causes_of_outs 1 dumps) (also_cause failed TaskDisk) (outs_unrefused 1 dumps) (also_unrefused failed TaskDisk (λ refused. absurd refused)))
    (also_unrefused wanting Memory (λ refused. absurd refused)))
    is.one

-- the end of a node's reading is no refusal
node_unrefused : (node : ℕ) (e : NodeEnd) → IsRefusedOpening (cause_of_node node e) → ⊥
node_unrefused node reading.Open refused = absurd refused
node_unrefused node reading.Whole refused = absurd refused
node_unrefused node reading.Read refused = absurd refused
node_unrefused node reading.Memory refused = absurd refused
node_unrefused node (reading.Fault place fault) refused = absurd refused

-- nor are the ends of all
nodes_unrefused : {S : Type 0} (node : ℕ) (jobs : List (SourcedStage S)) → AllByRecursion (λ (c : Outcome). IsRefusedOpening c → ⊥) (causes_of_nodes node jobs)
nodes_unrefused node [] = tt
nodes_unrefused node (j ∷ jobs) = (node_unrefused node j.stage.reader.end, nodes_unrefused (node + 1) jobs)

-- nor is the end of the merging
merge_unrefused : (e : MergeEnd) → IsRefusedOpening (cause_of_merge e) → ⊥
merge_unrefused merging.Open refused = absurd refused
merge_unrefused merging.Whole refused = absurd refused
merge_unrefused (merging.TooLarge number bytes) refused = absurd refused
merge_unrefused merging.Memory refused = absurd refused

-- nor is the first of all causes
pub all_unrefused : {S D : Type 0} (dumps : List (StagedDisk D)) (failed wanting : Bool) (cause : Outcome) (jobs : List (SourcedStage S)) (e : MergeEnd) (outcome : Outcome) → IsFirstPassCause (causes_of_pass dumps failed wanting) cause
    → IsFirstPassCause (cause ∷ causes_of_nodes 1 jobs ++ cause_of_merge e ∷ []) outcome → IsRefusedOpening outcome → ⊥
all_unrefused dumps failed wanting cause jobs e outcome is first =
    one_unrefused outcome (cause ∷ causes_of_nodes 1 jobs ++ cause_of_merge e ∷ [])
    (pass_unrefused dumps failed wanting cause is, both_unrefused (causes_of_nodes 1 jobs) (cause_of_merge e ∷ []) (nodes_unrefused 1 jobs) (merge_unrefused e, tt))
    first.one

-- the cause of windows, then those of the nodes, then that of the merging
pub first_of_all : (causes : List Outcome) (cause nodes second merging_says end_says result : Outcome) → IsFirstPassCause causes nodes
    → (second ≡ cause) ⊎ (second ≡ nodes) → (ComesBefore cause second → ⊥) × (ComesBefore nodes second → ⊥)
    → (result ≡ second) ⊎ (result ≡ merging_says) → (ComesBefore second result → ⊥) × (ComesBefore merging_says result → ⊥) → merging_says ≡ end_says
    → IsFirstPassCause (cause ∷ causes ++ end_says ∷ []) result
first_of_all causes cause nodes second merging_says end_says result is which never last never_last same =
    subst (λ (e : Outcome). IsFirstPassCause (cause ∷ causes ++ e ∷ []) result) same
    (first_more (cause ∷ causes) second merging_says result (first_behind causes nodes cause second is which never) last never_last.0 never_last.1)
