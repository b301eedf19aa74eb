-- The key up to which nodes have forgotten, over windows: where they came it is never above the last unit's.
use Rattle.std.proofs.Common.{◌≡◌, ℕ, ◌≤◌, List, [], ◌∷◌, length, sym, ◌∙◌, ap, subst, arith}
use Rattle.std.specs.List.{AllZip, AllByRecursion}
use Rattle.cdc_base.specs.declared.key.Key.{Key}
use Rattle.cdc_model.specs.declared.node_log.NodeLog.{NodeLog}
use Rattle.cdc_model.specs.Records.{Transaction}
use Rattle.cdc_model.specs.Restart.{IsAtMost}
use Rattle.cdc_model.specs.Transaction.{key_at}
use Rattle.cdc_model.proofs.RestartPoints.{at_most_on}
use Rattle.cdc_recovery.specs.Outputs.{OutputPlan, planned_transactions}
use Rattle.cdc_content.proofs.Rising.{later_key}
use Rattle.cdc_turns.specs.Account.{Sender, Passer}
use Rattle.cdc_turns.specs.Joined.{joined}
use Rattle.cdc_turns.specs.Flow.{Line}
use Rattle.cdc_item.specs.declared.node_item.NodeItem.{NodeItem}
use Rattle.cdc_item.specs.declared.dump_item.DumpItem.{DumpItem}
use Rattle.cdc_dump_stage.specs.Disks.{DiskWords}
use Rattle.cdc_dump_stage.specs.Job.{StagedDisk, HasGone, dump_account}
use Rattle.cdc_windows.specs.declared.reached.Reached.{Reached}
use Rattle.cdc_windows.specs.Rereading.{Rereading, RememberFrom}
use Rattle.cdc_windows.specs.Windows.{HasUnits, AreGiven, ReadLogs, IsFlowing, HasRun, RunsOn}
use Rattle.cdc_windows.proofs.Flows.{turned_long}
use Rattle.cdc_windows.proofs.MorePairs.{all_over}
use Rattle.cdc_windows.proofs.Passing.{given_so_far}
use Rattle.cdc_windows.proofs.Steps.{counts_rise}

module _ {N : Type 0} (r : Rereading N) where
  -- up to a greater key
  pub remember_more : (last later : Key) (nodes : List N) → IsAtMost last later → RememberFrom r last nodes → RememberFrom r later nodes
  remember_more last later [] more all = tt
  remember_more last later (node ∷ nodes) more all = (at_most_on (r.known node) last later all.0 more, remember_more last later nodes more all.1)

  -- turns forget nothing
  pub turns_remember : {T : Type 0} (a : Sender N T) → ((x y : N) → a.turned x y → r.known y ≡ r.known x) → (last : Key) (olds news : List N) → AllZip a.turned olds news
      → RememberFrom r last olds → RememberFrom r last news
  turns_remember a keep last olds news turned =
      all_over a.turned (λ (node : N). IsAtMost (r.known node) last) (λ (node : N). IsAtMost (r.known node) last)
      (λ x y turn low. subst (λ (key : Key). IsAtMost key last) (sym (keep x y turn)) low) olds news turned

-- where something is given, the count isn't below that of the start
came_from : (plan : OutputPlan) (txns : List Transaction) (from count : ℕ) (gives : List (List DumpItem)) → 1 ≤ length gives → AllByRecursion (HasUnits plan txns from count) gives → from ≤ count
came_from plan txns from count [] some units = absurd (omega (arith, some))
came_from plan txns from count (items ∷ gives) some units = let many = units.0.many in omega (arith, many)

-- the key of where a pass came isn't below that of fewer transactions
key_rises : (plan : OutputPlan) (logs : List NodeLog) (from count : ℕ) (came : Reached) (gives : List (List DumpItem)) → count ≤ came.count → AreGiven plan (planned_transactions plan logs) from came gives
    → IsAtMost (key_at (planned_transactions plan logs) count) came.last
key_rises plan logs from count came gives rises given =
    subst (λ (key : Key). IsAtMost (key_at (planned_transactions plan logs) count) key) (sym given.last) (later_key plan logs count came.count rises given.within)

module _ {N M D : Type 0} (a : Sender N NodeItem) (m : Passer M NodeItem DumpItem) (w : DiskWords D) (r : Rereading N) (came : M → Reached) (plan : OutputPlan) (logs : List NodeLog) (from : ℕ)
    (first : Line N M (StagedDisk D) NodeItem DumpItem) (reads : ReadLogs a m r came plan logs from first.nodes first.merge) (some : 1 ≤ length first.dumps) where
  -- something was given to each output
  gives_some : (line : Line N M (StagedDisk D) NodeItem DumpItem) (has_run : HasRun a m (dump_account w) r first line) → 1 ≤ length has_run.ran.gives
  gives_some line has_run = let long = turned_long (HasGone w) first.dumps line.dumps has_run.ran.gives has_run.dumps in let many = long.0 in omega (arith, some, many)

  -- behind the first window
  pub remember_first : (line : Line N M (StagedDisk D) NodeItem DumpItem) → HasRun a m (dump_account w) r first line
      → RememberFrom r (key_at (planned_transactions plan logs) from) line.nodes → RememberFrom r (came line.merge).last line.nodes
  remember_first line has_run =
      let txns = planned_transactions plan logs in
      let given = given_so_far a m w r came plan logs from first line reads has_run in
      let rises = came_from plan txns from (came line.merge).count has_run.ran.gives (gives_some line has_run) given.units in
      remember_more r (key_at txns from) (came line.merge).last line.nodes (key_rises plan logs from from (came line.merge) has_run.ran.gives rises given)

  -- behind a later one
  pub remember_later : (old between line : Line N M (StagedDisk D) NodeItem DumpItem) (had_run : HasRun a m (dump_account w) r first old) (flows : IsFlowing a m (dump_account w) r first between)
      → flows.flow.gets ≡ had_run.ran.gives → RunsOn a m (dump_account w) r first between line flows
      → RememberFrom r (came old.merge).last line.nodes → RememberFrom r (came line.merge).last line.nodes
  remember_later old between line had_run flows gets runs =
      let txns = planned_transactions plan logs in
      let before = given_so_far a m w r came plan logs from first old reads had_run in
      let given = given_so_far a m w r came plan logs from first line reads runs.has_run in
      let more : runs.has_run.ran.gives ≡ joined had_run.ran.gives runs.taken = runs.gives ∙ ap (λ items. joined items runs.taken) gets in
      let units : AllByRecursion (HasUnits plan txns from (came line.merge).count) (joined had_run.ran.gives runs.taken) = subst (λ items. AllByRecursion (HasUnits plan txns from (came line.merge).count) items) more given.units in
      let rises = counts_rise plan txns from (came old.merge).count (came line.merge).count had_run.ran.gives runs.taken (gives_some old had_run) before.units units in
      let key : IsAtMost (came old.merge).last (came line.merge).last =
      subst (λ (k : Key). IsAtMost k (came line.merge).last) (sym before.last) (key_rises plan logs from (came old.merge).count (came line.merge) runs.has_run.ran.gives rises given) in
      remember_more r (came old.merge).last (came line.merge).last line.nodes key
