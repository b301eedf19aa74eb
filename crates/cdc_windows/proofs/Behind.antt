-- What an answer says of the causes that it isn't.
use Rattle.std.proofs.Common.{◌≡◌, ℕ, ◌+◌, ◌<◌, inl, inr, Bool, true, false, not, List, [], ◌∷◌, ◌++◌, refl, sym, ◌∙◌, ap, subst, arith}
use Rattle.std.specs.List.{All, AllByRecursion}
use Rattle.std.proofs.lemmas.List.Elements.{recursion_from_All}
use Rattle.cdc_base.specs.declared.key.Key.{Key as OneKey}
use Rattle.cdc_model.specs.declared.layout.Layout.{Layout}
use Rattle.cdc_model.specs.Records.{Transaction}
use Rattle.cdc_recovery.specs.Outputs.{OutputPlan}
use Rattle.cdc_dump_stage.specs.declared.dump_end.DumpEnd.{DumpEnd}
use Rattle.cdc_dump_stage.specs.declared.dump_end.DumpEnd.TheVariants as end_of
use Rattle.cdc_dump_stage.specs.Disks.{DiskWords}
use Rattle.cdc_dump_stage.specs.Standing.{IsReadyFor}
use Rattle.cdc_dump_stage.specs.Taking.{is_well}
use Rattle.cdc_dump_stage.specs.Job.{StagedDisk}
use Rattle.cdc_opening.specs.declared.outcome.Outcome.{Outcome}
use Rattle.cdc_opening.specs.declared.outcome.Outcome.TheVariants.{Done, Disk, TaskDisk, Read, Memory, TooLarge, Node, Open, Task, Behind, Differs, Key}
use Rattle.cdc_opening.specs.Outcomes.{place_of_outcome, ComesBefore}
use Rattle.cdc_windows.specs.Causes.{cause_of_out, causes_of_outs, also_cause, causes_of_pass, IsOneOf, IsFirstPassCause}
use Rattle.cdc_windows.specs.Windows.{OutsGoOn}

-- what holds of all holds of those in front
all_front : {A : Type 0} (P : A → Type 0) (xs ys : List A) → AllByRecursion P (xs ++ ys) → AllByRecursion P xs
all_front P [] ys all = tt
all_front P (x ∷ xs) ys all = (all.0, all_front P xs ys all.1)

-- and of the last
last_of : {A : Type 0} (P : A → Type 0) (xs : List A) (x : A) → AllByRecursion P (xs ++ x ∷ []) → P x
last_of P [] x all = all.0
last_of P (y ∷ xs) x all = last_of P xs x all.1

-- what holds of two lists holds of both as one
all_both : {A : Type 0} (P : A → Type 0) (xs ys : List A) → AllByRecursion P xs → AllByRecursion P ys → AllByRecursion P (xs ++ ys)
all_both P [] ys front rest = rest
all_both P (x ∷ xs) ys front rest = (front.0, all_both P xs ys front.1 rest)

-- the same jobs have the same causes
pub first_same : {D : Type 0} (jobs others : List (StagedDisk D)) (failed wanting : Bool) (first : Outcome) → jobs ≡ others → IsFirstPassCause (causes_of_pass jobs failed wanting) first → IsFirstPassCause (causes_of_pass others failed wanting) first
first_same {D} jobs others failed wanting first same is = subst (λ (list : List (StagedDisk D)). IsFirstPassCause (causes_of_pass list failed wanting) first) same is

-- behind want of memory none was wanting
pub was_stored : {D : Type 0} (dumps : List (StagedDisk D)) (failed stored : Bool) (first : Outcome) → IsFirstPassCause (causes_of_pass dumps failed (not stored)) first → 10 < place_of_outcome first → stored ≡ true
was_stored dumps failed true first is behind = refl
was_stored dumps failed false first is behind =
    absurd (last_of (λ (c : Outcome). ComesBefore c first → ⊥) (causes_of_outs 1 dumps ++ also_cause failed TaskDisk) Memory is.none_before (inl behind))

-- behind a failure of the task's disk that disk worked
pub task_worked : {D : Type 0} (dumps : List (StagedDisk D)) (failed wanting : Bool) (first : Outcome) → IsFirstPassCause (causes_of_pass dumps failed wanting) first → 8 < place_of_outcome first → failed ≡ false
task_worked dumps false wanting first is behind = refl
task_worked dumps true wanting first is behind =
    absurd
    (last_of (λ (c : Outcome). ComesBefore c first → ⊥) (causes_of_outs 1 dumps) TaskDisk
    (all_front (λ (c : Outcome). ComesBefore c first → ⊥) (causes_of_outs 1 dumps ++ TaskDisk ∷ []) (also_cause wanting Memory) is.none_before) (inl behind))

-- behind a refused unit a stage neither refused one nor failed
well_by : (e : DumpEnd) (n : ℕ) (first : Outcome) → 11 < place_of_outcome first → (ComesBefore (cause_of_out n e) first → ⊥) → is_well e ≡ true
well_by end_of.Open n first behind never = refl
well_by end_of.Whole n first behind never = refl
well_by end_of.Disk n first behind never = absurd (never (inl (let h : 7 < place_of_outcome first = omega (arith, behind) in h)))
well_by (end_of.Differs kept given) n first behind never = absurd (never (inl behind))
well_by (end_of.Key kept given) n first behind never = absurd (never (inl behind))

-- so it is of all stages
well_and_ended : {D : Type 0} (n : ℕ) (dumps : List (StagedDisk D)) (first : Outcome) → 11 < place_of_outcome first → AllByRecursion (λ (c : Outcome). ComesBefore c first → ⊥) (causes_of_outs n dumps)
    → AllByRecursion (λ (job : StagedDisk D). job.stage.ended ≡ true) dumps → AllByRecursion (λ (job : StagedDisk D). (job.stage.ended ≡ true) × (is_well job.stage.end ≡ true)) dumps
well_and_ended n [] first behind none ended = tt
well_and_ended n (job ∷ dumps) first behind none ended = ((ended.0, well_by job.stage.end n first behind none.0), well_and_ended (n + 1) dumps first behind none.1 ended.1)

-- so all stages that have ended are well
pub ended_well : {D : Type 0} (dumps : List (StagedDisk D)) (failed wanting : Bool) (first : Outcome) → IsFirstPassCause (causes_of_pass dumps failed wanting) first → 11 < place_of_outcome first
    → All (λ (job : StagedDisk D). job.stage.ended ≡ true) dumps → AllByRecursion (λ (job : StagedDisk D). (job.stage.ended ≡ true) × (is_well job.stage.end ≡ true)) dumps
ended_well {D} dumps failed wanting first is behind ended =
    let of_disks = all_front (λ (c : Outcome). ComesBefore c first → ⊥) (causes_of_outs 1 dumps ++ also_cause failed TaskDisk) (also_cause wanting Memory) is.none_before in
    let of_outs = all_front (λ (c : Outcome). ComesBefore c first → ⊥) (causes_of_outs 1 dumps) (also_cause failed TaskDisk) of_disks in
    well_and_ended 1 dumps first behind of_outs (recursion_from_All (λ (job : StagedDisk D). job.stage.ended ≡ true) dumps ended)

-- an answer says that an output refused a unit
abbrev refuses : Outcome → Bool
refuses Done = false
refuses (Disk out) = false
refuses TaskDisk = false
refuses (Read node) = false
refuses Memory = false
refuses (TooLarge number bytes) = false
refuses (Node node place fault) = false
refuses (Open out fault) = false
refuses (Task fault) = false
refuses (Behind node kept given) = false
refuses (Differs out kept given) = true
refuses (Key out kept given) = true

-- a stage that is well refused none
well_refuses_none : (e : DumpEnd) (n : ℕ) → is_well e ≡ true → refuses (cause_of_out n e) ≡ false
well_refuses_none end_of.Open n well = refl
well_refuses_none end_of.Whole n well = refl
well_refuses_none end_of.Disk n well = refl
well_refuses_none (end_of.Differs kept given) n well = absurd cc
well_refuses_none (end_of.Key kept given) n well = absurd cc

-- an answer that is one of these causes refuses none where they refuse none
one_refuses_none : (causes : List Outcome) (first : Outcome) → IsOneOf first causes → AllByRecursion (λ (c : Outcome). refuses c ≡ false) causes → refuses first ≡ false
one_refuses_none [] first is none = ap refuses is
one_refuses_none (c ∷ causes) first (inl here) none = ap refuses here ∙ none.0
one_refuses_none (c ∷ causes) first (inr there) none = one_refuses_none causes first there none.1

-- nor does one cause more
also_refuses_none : (also : Bool) (cause : Outcome) → refuses cause ≡ false → AllByRecursion (λ (c : Outcome). refuses c ≡ false) (also_cause also cause)
also_refuses_none true cause not = (not, tt)
also_refuses_none false cause not = tt

module _ {D : Type 0} (w : DiskWords D) (plan : OutputPlan) (txns : List Transaction) (count : ℕ) where
  -- a stage that is ready refused none
  ready_refuses_none : (job : StagedDisk D) (n : ℕ) → IsReadyFor w plan txns count job.stage job.disk → refuses (cause_of_out n job.stage.end) ≡ false
  ready_refuses_none job n (inl working) = well_refuses_none job.stage.end n working.well
  ready_refuses_none job n (inr failed) = ap (λ (e : DumpEnd). refuses (cause_of_out n e)) failed

  -- so it is of all outputs
  outs_refuse_none : (n : ℕ) (firsts lasts : List (StagedDisk D)) → OutsGoOn w plan txns count firsts lasts → AllByRecursion (λ (c : Outcome). refuses c ≡ false) (causes_of_outs n lasts)
  outs_refuse_none n [] [] all = tt
  outs_refuse_none n [] (z ∷ lasts) all = absurd all
  outs_refuse_none n (x ∷ firsts) [] all = absurd all
  outs_refuse_none n (x ∷ firsts) (z ∷ lasts) all = (ready_refuses_none z n all.0.1, outs_refuse_none (n + 1) firsts lasts all.1)

  -- so the answer is no refusal
  pub pass_refuses_none : (firsts lasts : List (StagedDisk D)) → OutsGoOn w plan txns count firsts lasts → (failed wanting : Bool) (first : Outcome) → IsFirstPassCause (causes_of_pass lasts failed wanting) first
      → (out : ℕ) → ((kept given : Layout) → first ≡ Differs out kept given → ⊥) × ((kept given : OneKey) → first ≡ Key out kept given → ⊥)
  pass_refuses_none firsts lasts outs failed wanting first is out =
      let of_disks =
      all_both (λ (c : Outcome). refuses c ≡ false) (causes_of_outs 1 lasts) (also_cause failed TaskDisk) (outs_refuse_none 1 firsts lasts outs) (also_refuses_none failed TaskDisk refl) in
      let of_all = all_both (λ (c : Outcome). refuses c ≡ false) (causes_of_outs 1 lasts ++ also_cause failed TaskDisk) (also_cause wanting Memory) of_disks (also_refuses_none wanting Memory refl) in
      let none : refuses first ≡ false = one_refuses_none (causes_of_pass lasts failed wanting) first is.one of_all in (
        (λ kept given named. let e : ◌≡◌ {A = Bool} true false = sym (ap refuses named) ∙ none in cc),
        (λ kept given named. let e : ◌≡◌ {A = Bool} true false = sym (ap refuses named) ∙ none in cc),
      )
