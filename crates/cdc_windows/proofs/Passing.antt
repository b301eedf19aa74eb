-- All that a pass keeps, over one window more.
use Rattle.std.proofs.Common.{◌≡◌, ℕ, ◌≤◌, IsTrue, List, [], ◌∷◌, length, sym, ◌∙◌, ap, subst, arith}
use Rattle.std.specs.List.{AllByRecursion}
use Rattle.cdc_outside.specs.Disk.{Image}
use Rattle.cdc_model.specs.declared.node_log.NodeLog.{NodeLog}
use Rattle.cdc_model.specs.Records.{Transaction}
use Rattle.cdc_recovery.specs.Outputs.{OutputPlan, planned_transactions}
use Rattle.cdc_recovery.proofs.Runs.{nothing_grows}
use Rattle.cdc_turns.specs.Account.{Sender, Passer}
use Rattle.cdc_turns.specs.Joined.{joined, nothing_for, AllTurned}
use Rattle.cdc_turns.specs.Flow.{Line}
use Rattle.cdc_turns.proofs.Turnings.{turned_same, turned_then}
use Rattle.cdc_item.specs.declared.node_item.NodeItem.{NodeItem}
use Rattle.cdc_item.specs.declared.dump_item.DumpItem.{DumpItem}
use Rattle.cdc_dump_stage.specs.Disks.{DiskWords}
use Rattle.cdc_dump_stage.specs.Standing.{IsReadyFor}
use Rattle.cdc_dump_stage.specs.Job.{StagedDisk, HasGone, dump_account}
use Rattle.cdc_dump_stage.specs.JobLaws.{gone_nowhere, gone_on}
use Rattle.cdc_windows.specs.declared.reached.Reached.{Reached}
use Rattle.cdc_windows.specs.Rereading.{Rereading}
use Rattle.cdc_windows.specs.Windows.{HasUnits, AreGiven, ReadLogs, IsFlowing, HasRun, RunsOn, KeptWindow, KeepsAll, OutsGoOn}
use Rattle.cdc_windows.proofs.Flows.{turned_long, nothing_joined, ended_from}
use Rattle.cdc_windows.proofs.Outs.{outs_go_on}
use Rattle.cdc_windows.proofs.Steps.{counts_rise, made_sound, task_begins, task_on}

-- before anything is given
no_units : {A : Type 0} (plan : OutputPlan) (txns : List Transaction) (from : ℕ) (olds : List A) → AllByRecursion (HasUnits plan txns from from) (nothing_for olds)
no_units plan txns from [] = tt
no_units plan txns from (o ∷ olds) = (record { units = tt; many = omega arith }, no_units plan txns from olds)

module _ {N M D : Type 0} (a : Sender N NodeItem) (m : Passer M NodeItem DumpItem) (w : DiskWords D) (r : Rereading N) (came : M → Reached) where
  same_outs : ((disk : D) (image : Image) → w.left_since disk (w.moment disk) image → w.may_leave disk image) → (plan : OutputPlan) (txns : List Transaction) (from : ℕ) (dumps : List (StagedDisk D))
      → AllByRecursion (λ (job : StagedDisk D). IsReadyFor w plan txns from job.stage job.disk) dumps → OutsGoOn w plan txns from dumps dumps
  same_outs only_now plan txns from [] ready = tt
  same_outs only_now plan txns from (job ∷ dumps) ready = ((nothing_grows w.may_leave w.moment w.left_since only_now plan txns job.disk, ready.0), same_outs only_now plan txns from dumps ready.1)

  -- before the first window
  pub keeps_at_first : ((disk : D) (image : Image) → w.left_since disk (w.moment disk) image → w.may_leave disk image) → (plan : OutputPlan) (logs : List NodeLog) (from : ℕ) (dumps : List (StagedDisk D)) (task : D)
      → AllByRecursion (λ (job : StagedDisk D). IsReadyFor w plan (planned_transactions plan logs) from job.stage job.disk) dumps → KeepsAll w plan logs from dumps dumps task task
  keeps_at_first only_now plan logs from dumps task ready = record {
    outs = same_outs only_now plan (planned_transactions plan logs) from dumps ready;
    task = λ covered each. task_begins w r plan logs only_now from dumps task covered each;
  }

  -- what was given so far
  pub given_so_far : (plan : OutputPlan) (logs : List NodeLog) (from : ℕ) (first line : Line N M (StagedDisk D) NodeItem DumpItem) → ReadLogs a m r came plan logs from first.nodes first.merge
      → (has_run : HasRun a m (dump_account w) r first line) → AreGiven plan (planned_transactions plan logs) from (came line.merge) has_run.ran.gives
  given_so_far plan logs from first line reads has_run = reads.gives line.nodes line.merge has_run.window has_run.ran.sends has_run.ran.gives (ended_from a m (dump_account w) r first line has_run)

  -- one window more
  pub keeps_on : IsTrue w.tells → ((disk : D) (t : ℕ) (image : Image) → t ≤ w.moment disk → w.may_leave disk image → w.left_since disk t image) → ((disk : D) → w.may_leave disk (w.seen disk))
      → (plan : OutputPlan) (logs : List NodeLog) (rotation from count : ℕ) (first line : Line N M (StagedDisk D) NodeItem DumpItem) (mids : List (StagedDisk D)) (gave taken : List (List DumpItem)) (task mid last : D)
      → plan.rotation ≡ rotation → ReadLogs a m r came plan logs from first.nodes first.merge
      → AllByRecursion (λ (job : StagedDisk D). IsReadyFor w plan (planned_transactions plan logs) from job.stage job.disk) first.dumps → 1 ≤ length first.dumps
      → AllTurned (HasGone w) first.dumps gave mids → AllByRecursion (HasUnits plan (planned_transactions plan logs) from count) gave → KeepsAll w plan logs count first.dumps mids task mid
      → (has_run : HasRun a m (dump_account w) r first line) → AllTurned (HasGone w) mids taken line.dumps → has_run.ran.gives ≡ joined gave taken
      → KeptWindow w r rotation line.nodes (came line.merge) line.dumps mid last
      → KeepsAll w plan logs (came line.merge).count first.dumps line.dumps task last
  keeps_on told counts_now seen_may_stay plan logs rotation from count first line mids gave taken task mid last same reads ready some turned units so_far has_run more gives kept =
      let txns = planned_transactions plan logs in
      let given = given_so_far plan logs from first line reads has_run in
      let all_units : AllByRecursion (HasUnits plan txns from (came line.merge).count) (joined gave taken) = subst (λ items. AllByRecursion (HasUnits plan txns from (came line.merge).count) items) gives given.units in
      let both = outs_go_on w plan txns told counts_now from (came line.merge).count first.dumps mids line.dumps gave taken turned more ready all_units in
      let long = turned_long (HasGone w) first.dumps mids gave turned in
      let many : length gave ≡ length first.dumps = long.0 in
      let rises = counts_rise plan txns from count (came line.merge).count gave taken (omega (arith, some, many)) units all_units in
      record {
        outs = both.1;
        task = λ covered each.
            task_on w r plan logs counts_now seen_may_stay told rotation count line.nodes (came line.merge) first.dumps mids line.dumps task mid last both.0 both.1 rises
            (λ p made. made_sound r plan logs rotation from line.nodes (came line.merge) has_run.ran.gives p (sym same) given
            (λ points restart. reads.points line.nodes line.merge has_run.window has_run.ran.sends has_run.ran.gives points (ended_from a m (dump_account w) r first line has_run) restart) made)
            (so_far.task covered each) kept;
      }

  -- the first window
  pub keeps_first : IsTrue w.tells → ((disk : D) (t : ℕ) (image : Image) → t ≤ w.moment disk → w.may_leave disk image → w.left_since disk t image) → ((disk : D) (image : Image) → w.left_since disk (w.moment disk) image → w.may_leave disk image)
      → ((disk : D) → w.may_leave disk (w.seen disk)) → (plan : OutputPlan) (logs : List NodeLog) (rotation from : ℕ) (first line : Line N M (StagedDisk D) NodeItem DumpItem) (flows : IsFlowing a m (dump_account w) r first first) (task last : D)
      → flows.flow.gets ≡ nothing_for first.dumps → plan.rotation ≡ rotation → ReadLogs a m r came plan logs from first.nodes first.merge
      → AllByRecursion (λ (job : StagedDisk D). IsReadyFor w plan (planned_transactions plan logs) from job.stage job.disk) first.dumps → 1 ≤ length first.dumps
      → (runs : RunsOn a m (dump_account w) r first first line flows) → KeptWindow w r rotation line.nodes (came line.merge) line.dumps task last
      → KeepsAll w plan logs (came line.merge).count first.dumps line.dumps task last
  keeps_first told counts_now only_now seen_may_stay plan logs rotation from first line flows task last gets same reads ready some runs kept =
      keeps_on told counts_now seen_may_stay plan logs rotation from from first line first.dumps (nothing_for first.dumps) runs.taken task task last same reads ready some
      (turned_same (HasGone w) (λ job. gone_nowhere w (λ is. only_now) job) first.dumps) (no_units plan (planned_transactions plan logs) from first.dumps) (keeps_at_first only_now plan logs from first.dumps task ready)
      runs.has_run runs.dumps (runs.gives ∙ ap (λ items. joined items runs.taken) gets) kept

  -- a later window
  pub keeps_later : IsTrue w.tells → ((disk : D) (t : ℕ) (image : Image) → t ≤ w.moment disk → w.may_leave disk image → w.left_since disk t image) → ((disk : D) → w.may_leave disk (w.seen disk))
      → (plan : OutputPlan) (logs : List NodeLog) (rotation from : ℕ) (first old between line : Line N M (StagedDisk D) NodeItem DumpItem) (task mid last : D)
      → plan.rotation ≡ rotation → ReadLogs a m r came plan logs from first.nodes first.merge
      → AllByRecursion (λ (job : StagedDisk D). IsReadyFor w plan (planned_transactions plan logs) from job.stage job.disk) first.dumps → 1 ≤ length first.dumps
      → (had_run : HasRun a m (dump_account w) r first old) → KeepsAll w plan logs (came old.merge).count first.dumps old.dumps task mid
      → AllTurned (HasGone w) old.dumps (nothing_for old.dumps) between.dumps → (flows : IsFlowing a m (dump_account w) r first between) → flows.flow.gets ≡ had_run.ran.gives
      → (runs : RunsOn a m (dump_account w) r first between line flows) → KeptWindow w r rotation line.nodes (came line.merge) line.dumps mid last
      → KeepsAll w plan logs (came line.merge).count first.dumps line.dumps task last
  keeps_later told counts_now seen_may_stay plan logs rotation from first old between line task mid last same reads ready some had_run so_far again flows gets runs kept =
      let long = turned_long (HasGone w) old.dumps between.dumps (nothing_for old.dumps) again in
      let longer = turned_long (HasGone w) between.dumps line.dumps runs.taken runs.dumps in
      let nothing : joined (nothing_for old.dumps) runs.taken ≡ runs.taken = nothing_joined old.dumps runs.taken (longer.0 ∙ long.1) in
      let given = given_so_far plan logs from first old reads had_run in
      keeps_on told counts_now seen_may_stay plan logs rotation from (came old.merge).count first line old.dumps had_run.ran.gives (joined (nothing_for old.dumps) runs.taken) task mid last same reads ready some
      had_run.dumps given.units so_far runs.has_run
      (turned_then (HasGone w) (λ x y z p q. gone_on w (λ is. counts_now) x y z p q) old.dumps between.dumps line.dumps (nothing_for old.dumps) runs.taken again runs.dumps)
      (runs.gives ∙ ap (λ items. joined items runs.taken) gets ∙ ap (λ items. joined had_run.ran.gives items) (sym nothing)) kept
