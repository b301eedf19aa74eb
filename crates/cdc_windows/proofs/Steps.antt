-- A window more: the outputs go on, and the task with them.
use Rattle.std.proofs.Common.{◌≡◌, ℕ, ◌≤◌, Bool, true, false, IsTrue, List, [], ◌∷◌, length, take, Option, Some, refl, sym, ◌∙◌, ap, subst, arith}
use Rattle.std.specs.List.{AllZip, AllByRecursion}
use Rattle.cdc_base.specs.declared.key.Key.{Key}
use Rattle.cdc_outside.specs.Disk.{Image, LeavesOnly}
use Rattle.cdc_outside.proofs.Moments.{started}
use Rattle.cdc_model.specs.declared.node_log.NodeLog.{NodeLog}
use Rattle.cdc_model.specs.Output.{layout_of}
use Rattle.cdc_model.specs.Records.{Transaction}
use Rattle.cdc_model.specs.Restart.{RestartPoint, AreRestartPoints}
use Rattle.cdc_model.specs.Transaction.{key_at}
use Rattle.cdc_records.specs.declared.checkpoint.Checkpoint.{Checkpoint}
use Rattle.cdc_recovery.specs.Outputs.{OutputPlan, planned_transactions, KeepsFrom}
use Rattle.cdc_recovery.specs.Checkpoints.{IsRecoverablePoint, KeepsPoint, KeepsTask}
use Rattle.cdc_recovery.specs.Growing.{Each}
use Rattle.cdc_turns.specs.Joined.{joined}
use Rattle.cdc_item.specs.declared.dump_item.DumpItem.{DumpItem}
use Rattle.cdc_dump_stage.specs.Disks.{DiskWords, LosesNothing}
use Rattle.cdc_dump_stage.specs.Job.{StagedDisk}
use Rattle.cdc_dump_stage.specs.JobLaws.{units_more}
use Rattle.cdc_windows.specs.declared.reached.Reached.{Reached}
use Rattle.cdc_windows.specs.Keeping.{IsStoredBy}
use Rattle.cdc_windows.specs.Rereading.{Rereading}
use Rattle.cdc_windows.specs.Windows.{disks_of, OutsGoOn, HasUnits, AreGiven, AreWholeStages, IsCheckpointOf, KeptWindow, TaskGoesOn}
use Rattle.cdc_windows.proofs.Checkpoints.{window_keeps, keeps_start}
use Rattle.cdc_windows.proofs.Outs.{covered_on, whole_covers}

-- counts don't fall
pub counts_rise : (plan : OutputPlan) (txns : List Transaction) (from count later : ℕ) (gave taken : List (List DumpItem)) → 1 ≤ length gave
    → AllByRecursion (HasUnits plan txns from count) gave → AllByRecursion (HasUnits plan txns from later) (joined gave taken) → count ≤ later
counts_rise plan txns from count later [] taken some olds news = absurd (omega (arith, some))
counts_rise plan txns from count later (xs ∷ gave) [] some olds news = let a = olds.0.many in let b = news.0.many in omega (arith, a, b)
counts_rise plan txns from count later (xs ∷ gave) (ys ∷ taken) some olds news = let a = olds.0.many in let b = news.0.many in let more = units_more xs ys in omega (arith, a, b, more)

same_number : (a b c : ℕ) (r : Option ℕ) → r ≡ Some a → a ≡ b → r ≡ Some c → c ≡ b
same_number a b c r one is other = let e : Some c ≡ Some a = sym other ∙ one in let same : c ≡ a = cc in same ∙ is

-- a checkpoint of where a pass came is sound
pub made_sound : {N : Type 0} (r : Rereading N) (plan : OutputPlan) (logs : List NodeLog) (rotation from : ℕ) (nodes : List N) (came : Reached) (gives : List (List DumpItem)) (p : Checkpoint)
    → rotation ≡ plan.rotation → AreGiven plan (planned_transactions plan logs) from came gives
    → ((points : List RestartPoint) → AllZip (λ node point. r.may_restart node came.last point) nodes points → AreRestartPoints came.last logs points)
    → IsCheckpointOf r rotation nodes came p → IsRecoverablePoint plan logs p
made_sound r plan logs rotation from nodes came gives p same given points made = record {
  sound = record {
    within = subst (λ n. n ≤ length (planned_transactions plan logs)) (sym made.count) given.within;
    last = made.last ∙ given.last ∙ ap (λ n. key_at (planned_transactions plan logs) n) (sym made.count);
    layout = made.layout ∙ given.layout ∙ ap (λ n. layout_of plan.rules plan.rotation (take n (planned_transactions plan logs))) (sym made.count);
    points = subst (λ (key : Key). AreRestartPoints key logs p.nodes) (sym made.last) (points p.nodes made.points);
  };
  rotation = λ named is. same_number rotation plan.rotation named p.rotation made.rotation_is same is;
}

module _ {N D : Type 0} (w : DiskWords D) (r : Rereading N) (plan : OutputPlan) (logs : List NodeLog) where
  -- the task before the first window
  pub task_begins : (only_now : (disk : D) (image : Image) → w.left_since disk (w.moment disk) image → w.may_leave disk image) (from : ℕ) (dumps : List (StagedDisk D)) (task : D)
      → AllByRecursion (λ (disk : D). Each (w.may_leave disk) (KeepsFrom plan (planned_transactions plan logs) 0)) (disks_of dumps)
      → Each (w.may_leave task) (λ (image : Image). (point : Option Checkpoint) × KeepsPoint plan logs point image) → TaskGoesOn w plan logs from (disks_of dumps) task task
  task_begins only_now from dumps task covered each = record {
    most = 0;
    below = omega arith;
    kept = record {
      every_moment =
          started w.moment w.left_since task (KeepsTask plan logs (w.may_leave task) 0)
          (λ image left. let leaves = only_now task image left in let kept = each image leaves in keeps_start plan logs (w.may_leave task) 0 image leaves kept.0 kept.1);
      covered = covered;
    };
  }

  -- by whether the window's checkpoint might be kept
  task_on_by : (counts_now : (disk : D) (t : ℕ) (image : Image) → t ≤ w.moment disk → w.may_leave disk image → w.left_since disk t image) (seen_may_stay : (disk : D) → w.may_leave disk (w.seen disk))
      → IsTrue w.tells → (rotation count : ℕ) (nodes : List N) (came : Reached) (firsts mids lasts : List (StagedDisk D)) (first mid last : D)
      → AllZip (λ (old : StagedDisk D) (new : StagedDisk D). LosesNothing w plan (planned_transactions plan logs) old.disk new.disk) mids lasts
      → OutsGoOn w plan (planned_transactions plan logs) came.count firsts lasts → count ≤ came.count
      → ((p : Checkpoint) → IsCheckpointOf r rotation nodes came p → IsRecoverablePoint plan logs p)
      → TaskGoesOn w plan logs count (disks_of mids) first mid
      → (whole : Bool) → (whole ≡ true → AreWholeStages w lasts)
      → LeavesOnly w.moment w.left_since mid last (IsStoredBy (w.may_leave mid) (w.seen mid) (whole ≡ true) (IsCheckpointOf r rotation nodes came))
      → TaskGoesOn w plan logs came.count (disks_of lasts) first last
  task_on_by counts_now seen_may_stay told rotation count nodes came firsts mids lasts first mid last grows outs rises sound so_far true are_whole run =
      let few : so_far.most ≤ came.count = let low = so_far.below in omega (arith, low, rises) in
      record {
        most = came.count;
        below = omega arith;
        kept = record {
          every_moment = window_keeps w.seen w.may_leave w.moment w.left_since counts_now seen_may_stay plan logs so_far.most came.count (◌≡◌ {A = Bool} true true) (IsCheckpointOf r rotation nodes came) first mid last few so_far.kept.every_moment run
              (λ is p made. (sound p made, let count_is = made.count in omega (arith, count_is)));
          covered = whole_covers w plan (planned_transactions plan logs) told came.count firsts lasts outs (are_whole refl);
        };
      }
  task_on_by counts_now seen_may_stay told rotation count nodes came firsts mids lasts first mid last grows outs rises sound so_far false are_whole run = record {
    most = so_far.most;
    below = let low = so_far.below in omega (arith, low, rises);
    kept = record {
      every_moment = window_keeps w.seen w.may_leave w.moment w.left_since counts_now seen_may_stay plan logs so_far.most so_far.most (◌≡◌ {A = Bool} false true) (IsCheckpointOf r rotation nodes came) first mid last (omega arith) so_far.kept.every_moment run
          (λ is p made. absurd cc);
      covered = covered_on w plan (planned_transactions plan logs) counts_now so_far.most mids lasts grows so_far.kept.covered;
    };
  }

  -- over one window more
  pub task_on : (counts_now : (disk : D) (t : ℕ) (image : Image) → t ≤ w.moment disk → w.may_leave disk image → w.left_since disk t image) (seen_may_stay : (disk : D) → w.may_leave disk (w.seen disk))
      → IsTrue w.tells → (rotation count : ℕ) (nodes : List N) (came : Reached) (firsts mids lasts : List (StagedDisk D)) (first mid last : D)
      → AllZip (λ (old : StagedDisk D) (new : StagedDisk D). LosesNothing w plan (planned_transactions plan logs) old.disk new.disk) mids lasts
      → OutsGoOn w plan (planned_transactions plan logs) came.count firsts lasts → count ≤ came.count
      → ((p : Checkpoint) → IsCheckpointOf r rotation nodes came p → IsRecoverablePoint plan logs p)
      → TaskGoesOn w plan logs count (disks_of mids) first mid → KeptWindow w r rotation nodes came lasts mid last
      → TaskGoesOn w plan logs came.count (disks_of lasts) first last
  task_on counts_now seen_may_stay told rotation count nodes came firsts mids lasts first mid last grows outs rises sound so_far kept =
      task_on_by counts_now seen_may_stay told rotation count nodes came firsts mids lasts first mid last grows outs rises sound so_far kept.whole kept.are_whole kept.any_moment
