-- What windows keep of jobs, a pass keeps of their disks.
use Rattle.std.proofs.Common.{◌≡◌, ℕ, zero, suc, true, Bool, IsTrue, List, [], ◌∷◌, ◌++◌, length, take, refl, sym, ◌∙◌, ap, subst, arith}
use Rattle.std.specs.List.{AllZip}
use Rattle.cdc_model.specs.declared.node_log.NodeLog.{NodeLog}
use Rattle.cdc_model.specs.Records.{Transaction}
use Rattle.cdc_recovery.specs.Outputs.{OutputPlan, planned_transactions}
use Rattle.cdc_dump_stage.specs.Disks.{DiskWords, LosesNothing}
use Rattle.cdc_dump_stage.specs.Job.{StagedDisk}
use Rattle.cdc_windows.specs.declared.pass.Passed.{Passed}
use Rattle.cdc_windows.specs.Causes.{causes_of_pass, IsFirstPassCause}
use Rattle.cdc_windows.specs.Windows.{disks_of, OutsGoOn, AreWholeStages, KeepsAll}
use Rattle.cdc_windows.specs.Passes.{PassKeeps}
use Rattle.cdc_windows.proofs.Behind.{pass_refuses_none}
use Rattle.cdc_windows.proofs.Outs.{whole_covers}

-- what was lent comes back
pub lent_back : {A : Type 0} (n : ℕ) (xs ys : List A) → n ≡ length xs → take n (xs ++ ys) ≡ xs
lent_back zero [] ys long = refl
lent_back (suc n) [] ys long = absurd (omega (arith, long))
lent_back zero (x ∷ xs) ys long = absurd (omega (arith, long))
lent_back (suc n) (x ∷ xs) ys long = ap (λ rest. x ∷ rest) (lent_back n xs ys (omega (arith, long)))

-- disks that were given back
pub disks_given : {D : Type 0} (news front : List D) (jobs same_jobs : List (StagedDisk D)) → news ≡ front ++ disks_of jobs → front ≡ [] → jobs ≡ same_jobs → disks_of same_jobs ≡ news
disks_given news front jobs same_jobs is none same = sym (is ∙ (ap (λ items. items ++ disks_of jobs) none ∙ ap (λ js. disks_of js) same))

module _ {D : Type 0} (w : DiskWords D) where
  lose_nothing : (plan : OutputPlan) (txns : List Transaction) (count : ℕ) (olds news : List (StagedDisk D)) → OutsGoOn w plan txns count olds news → AllZip (λ (old : D) (new : D). LosesNothing w plan txns old new) (disks_of olds) (disks_of news)
  lose_nothing plan txns count [] [] all = tt
  lose_nothing plan txns count [] (n ∷ news) all = absurd all
  lose_nothing plan txns count (o ∷ olds) [] all = absurd all
  lose_nothing plan txns count (o ∷ olds) (n ∷ news) all = (all.0.0, lose_nothing plan txns count olds news all.1)

  pub pass_keeps : IsTrue w.tells → (plan : OutputPlan) (logs : List NodeLog) (count : ℕ) (passed : Passed) (failed wanting : Bool) (firsts lasts : List (StagedDisk D)) (olds news : List D) (task_old task_new : D)
      → KeepsAll w plan logs count firsts lasts task_old task_new → (passed.whole ≡ true → AreWholeStages w lasts) → IsFirstPassCause (causes_of_pass lasts failed wanting) passed.cause
      → disks_of firsts ≡ olds → disks_of lasts ≡ news → PassKeeps w plan logs count passed olds news task_old task_new
  pass_keeps told plan logs count passed failed wanting firsts lasts olds news task_old task_new keeps are_whole is first last =
      let kept : PassKeeps w plan logs count passed (disks_of firsts) (disks_of lasts) task_old task_new = record {
        outs = lose_nothing plan (planned_transactions plan logs) count firsts lasts keeps.outs;
        all = λ is. whole_covers w plan (planned_transactions plan logs) told count firsts lasts keeps.outs (are_whole is);
        task = keeps.task;
        refuses_none = pass_refuses_none w plan (planned_transactions plan logs) count firsts lasts keeps.outs failed wanting passed.cause is;
      } in
      subst (λ (disks : List D). PassKeeps w plan logs count passed disks news task_old task_new) first (subst (λ (disks : List D). PassKeeps w plan logs count passed (disks_of firsts) disks task_old task_new) last kept)
