-- Why a pass ended: the first of all causes in the order of answers.
use Rattle.std.specs.Prelude.{◌≡◌, ℕ, ◌+◌, ◌⊎◌, true, false, Bool, List, [], ◌∷◌, ◌++◌, map}
use Rattle.std.specs.List.{AllByRecursion, AllZip}
use Rattle.cdc_outside.specs.Count.{Rose}
use Rattle.cdc_dump_stage.specs.declared.dump_end.DumpEnd.{DumpEnd}
use Rattle.cdc_dump_stage.specs.declared.dump_end.DumpEnd.TheVariants.{Open, Whole, Disk, Differs, Key}
use Rattle.cdc_dump_stage.specs.Job.{StagedDisk}
use Rattle.cdc_opening.specs.declared.outcome.Outcome.{Outcome}
use Rattle.cdc_opening.specs.declared.outcome.Outcome.TheVariants as outcome
use Rattle.cdc_opening.specs.Outcomes.{ComesBefore}

-- what the end of the stage of an output of this number says of the pass
abbrev pub cause_of_out : ℕ → DumpEnd → Outcome
cause_of_out out Open = outcome.Done
cause_of_out out Whole = outcome.Done
cause_of_out out Disk = outcome.Disk out
cause_of_out out (Differs kept given) = outcome.Differs out kept given
cause_of_out out (Key kept given) = outcome.Key out kept given

-- what the ends of all outputs' stages say, numbered from one on
abbrev pub causes_of_outs : {D : Type 0} → ℕ → List (StagedDisk D) → List Outcome
causes_of_outs out [] = []
causes_of_outs out (job ∷ dumps) = cause_of_out out job.stage.end ∷ causes_of_outs (out + 1) dumps

-- it is one of these, or done
abbrev pub IsOneOf : Outcome → List Outcome → Type 0
IsOneOf first [] = first ≡ outcome.Done
IsOneOf first (cause ∷ causes) = (first ≡ cause) ⊎ IsOneOf first causes

-- of causes the one that is answered: done where there is none, and none comes before it
pub record IsFirstPassCause (causes : List Outcome) (first : Outcome) : Type 0 where
  pub one : IsOneOf first causes
  pub none_before : AllByRecursion (λ (cause : Outcome). ComesBefore cause first → ⊥) causes

-- one cause where there is one
abbrev pub also_cause : Bool → Outcome → List Outcome
also_cause true cause = cause ∷ []
also_cause false cause = []

-- the causes of the outputs, of the task's disk where it failed, and of want of memory where a checkpoint wasn't kept for it
abbrev pub causes_of_pass : {D : Type 0} → List (StagedDisk D) → Bool → Bool → List Outcome
causes_of_pass dumps task_failed wanting = (causes_of_outs 1 dumps ++ also_cause task_failed outcome.TaskDisk) ++ also_cause wanting outcome.Memory

-- why a pass over these outputs and this task ended: the first of the causes by the ends of stages over the outputs as they
-- are now; a stage failed by its disk only where that disk's count rose, and so did the task
pub record IsCausedBy {D : Type 0} (faults : D → ℕ) (olds news : List D) (task_old task_new : D) (cause : Outcome) : Type 0 where
  pub jobs : List (StagedDisk D)
  pub of_disks : map (λ (job : StagedDisk D). job.disk) jobs ≡ news
  pub task_failed : Bool
  pub wanting : Bool
  pub first : IsFirstPassCause (causes_of_pass jobs task_failed wanting) cause
  pub outs_rose : AllZip (λ (old : D) (job : StagedDisk D). job.stage.end ≡ Disk → Rose (faults old) (faults job.disk)) olds jobs
  pub task_rose : task_failed ≡ true → Rose (faults task_old) (faults task_new)
