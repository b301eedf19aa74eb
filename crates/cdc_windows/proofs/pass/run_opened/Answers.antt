-- Nothing was sent before the first window; what windows keep of jobs, the pass keeps of their disks.
use Rattle.std.proofs.Common.{◌≡◌, ℕ, ◌≤◌, ◌<◌, List, [], length, Option, sym, ◌∙◌, ap, subst, arith, false, true, not, Bool, ⊎_elim}
use Rattle.std.specs.List.{AllByRecursion, AllZip}
use Rattle.std.proofs.lemmas.List.Elements.{recursion_from_All}
use Rattle.cdc_lane.specs.declared.plain.PlainLane.{PlainLane}
use Rattle.cdc_lane.specs.Held.{held}
use Rattle.cdc_item.specs.declared.node_item.NodeItem.{NodeItem}
use Rattle.cdc_item.specs.declared.dump_item.DumpItem.{DumpItem}
use Rattle.cdc_dump_stage.specs.Disks.{disk_words}
use Rattle.cdc_dump_stage.specs.Taking.{is_well}
use Rattle.cdc_dump_stage.specs.Job.{StagedDisk}
use Rattle.cdc_opening.specs.Lists.{AllThree}
use Rattle.cdc_base.specs.declared.key.Key.{Key}
use Rattle.cdc_records.specs.declared.checkpoint.Checkpoint.{Checkpoint}
use Rattle.cdc_recovery.specs.Outputs.{planned_transactions}
use Rattle.cdc_windows.specs.Jobs.{IsJobOf, StartsSoundly, pass_start}
use Rattle.cdc_windows.specs.Windows.{AreWholeStages}
use Rattle.cdc_windows.proofs.Starting.{line_begins, jobs_long, all_ready, disks_back}
use Rattle.cdc_outside.specs.Count.{Rose}
use Rattle.cdc_outside.proofs.Pending.{durable_left}
use Rattle.cdc_turns.proofs.Pairwise.{zip_same}
use Rattle.cdc_opening.specs.Outcomes.{place_of_outcome}
use Rattle.cdc_windows.proofs.Behind.{first_same, was_stored, task_worked, ended_well}
use Rattle.cdc_windows.proofs.Failing.{outs_rose, outs_later}
use Rattle.cdc_windows.proofs.Offered.{last_kept}
use Rattle.cdc_windows.proofs.Whole.{pass_keeps, lent_back, disks_given}
use Rattle.cdc_windows.proofs.pass.run_opened.Goals as goal

pub run_windows-stored-requires-clause-begun : goal.run_windows-stored-requires-clause-begun
run_windows-stored-requires-clause-begun g c =
    let w = disk_words g.D.Disk.tells g.D.Disk.seen g.D.Disk.synced g.D.Disk.pending g.D.Disk.may_leave g.D.Disk.moment g.D.Disk.left_since g.D.Disk.faults in
    let made = subst (λ (jobs : List (StagedDisk g.row.D.Denot)). AllThree (IsJobOf c.pass_start-start.result) c.args.opened.dumpers.items c.args.outs.now.items jobs) (sym c.deref_mut-3.ensures.value) c.in-Ok-dump_jobs.ensures.jobs in
    let outs_long : length c.deref_mut-2.result.now ≡ length c.args.outs.now.items =
    let a = ap length c.deref_mut-2.ensures.value in let b = c.in-Ok-dump_lanes.ensures.count in let d = c.len.ensures in let e = c.args.outs.now.ok.0 in omega (arith, a, b, d, e) in
    line_begins g.N.NodeTurns.account g.M.MergeTurns.account w c.args.nodes.now c.deref_mut.result.now c.args.merge.now c.deref_mut-2.result.now c.pass_start-start.result c.args.opened.dumpers.items c.args.outs.now.items c.deref_mut-3.result.now made
    (ap length c.deref_mut.ensures.value ∙ c.in-Ok.ensures.count) outs_long c.requires.took c.requires.gave
    (subst (λ (lanes : List (PlainLane NodeItem)). AllByRecursion (λ (lane : PlainLane NodeItem). held lane ≡ []) lanes) (sym c.deref_mut.ensures.value) (recursion_from_All (λ (lane : PlainLane NodeItem). held lane ≡ []) c.in-Ok.lanes.items c.in-Ok.ensures.empty))
    (subst (λ (lanes : List (PlainLane DumpItem)). AllByRecursion (λ (lane : PlainLane DumpItem). held lane ≡ []) lanes) (sym c.deref_mut-2.ensures.value) (recursion_from_All (λ (lane : PlainLane DumpItem). held lane ≡ []) c.in-Ok-dump_lanes.lanes.items c.in-Ok-dump_lanes.ensures.empty))
    c.requires.sent c.requires.did

pub run_windows-stored-requires-clause-count : goal.run_windows-stored-requires-clause-count
run_windows-stored-requires-clause-count g c =
    let long : length c.deref_mut-3.result.now ≡ length c.args.outs.now.items = ap length c.deref_mut-3.ensures.value ∙ jobs_long c.pass_start-start.result c.args.opened.dumpers.items c.args.outs.now.items c.in-Ok-dump_jobs.jobs.items c.in-Ok-dump_jobs.ensures.jobs in
    let nodes = c.requires.few_nodes in
    let outs = c.requires.few_outs in
    omega (arith, long, nodes, outs)

pub run_windows-stored-requires-clause-some : goal.run_windows-stored-requires-clause-some
run_windows-stored-requires-clause-some g c =
    let long : length c.deref_mut-3.result.now ≡ length c.args.outs.now.items = ap length c.deref_mut-3.ensures.value ∙ jobs_long c.pass_start-start.result c.args.opened.dumpers.items c.args.outs.now.items c.in-Ok-dump_jobs.jobs.items c.in-Ok-dump_jobs.ensures.jobs in
    let some = c.requires.some_outs in
    omega (arith, long, some)

pub returns-clause-keeps : goal.returns-clause-keeps
returns-clause-keeps g c = λ told plan logs from olds same reads opened kept sound few.
    let w = disk_words g.D.Disk.tells g.D.Disk.seen g.D.Disk.synced g.D.Disk.pending g.D.Disk.may_leave g.D.Disk.moment g.D.Disk.left_since g.D.Disk.faults in
    let made = subst (λ (jobs : List (StagedDisk g.row.D.Denot)). AllThree (IsJobOf c.pass_start-start.result) c.args.opened.dumpers.items c.args.outs.now.items jobs) (sym c.deref_mut-3.ensures.value) c.in-Ok-dump_jobs.ensures.jobs in
    let ready = all_ready w told (λ disk. g.met.D.Disk.seen_may_stay disk told) plan (planned_transactions plan logs) c.pass_start-start.result from olds c.args.opened.dumpers.items c.args.outs.now.items c.deref_mut-3.result.now opened made kept
    (subst (λ (start : Option (ℕ × Key)). StartsSoundly (planned_transactions plan logs) start) (sym (c.pass_start-start.ensures ∙ ap (λ (point : Option Checkpoint). pass_start point c.args.opened.start) c.as_ref.ensures.value)) sound) few in
    let again : c.in-Ok-dump_jobs.jobs.len ≡ length c.run_windows-stored.new.dumps = let a = c.run_windows-stored.auto.dumps in let b = c.deref_mut-3.ensures.len in omega (arith, a, b) in
    let is =
    first_same c.deref-2.result.now c.run_windows-stored.new.dumps c.run_windows-stored.new.keeper.failed (not c.run_windows-stored.result) c.cause_of-cause.result
    (c.deref-2.ensures.value ∙ lent_back c.in-Ok-dump_jobs.jobs.len c.run_windows-stored.new.dumps _ again) c.cause_of-cause.ensures in
    pass_keeps w told plan logs _ (record { cause = c.cause_of-cause.result; whole = c.are_whole-whole.result }) c.run_windows-stored.new.keeper.failed (not c.run_windows-stored.result) c.deref_mut-3.result.now c.run_windows-stored.new.dumps c.args.outs.now.items c.give_back.new.outs.items c.args.task.now c.run_windows-stored.new.task
    (c.run_windows-stored.ensures.keeps told plan logs from same reads ready)
    (λ whole. subst (λ (jobs : List (StagedDisk g.row.D.Denot)). AreWholeStages w jobs) (c.deref.ensures.value ∙ lent_back c.in-Ok-dump_jobs.jobs.len c.run_windows-stored.new.dumps _ again) (c.are_whole-whole.ensures.whole whole))
    is
    (disks_back c.pass_start-start.result c.args.opened.dumpers.items c.args.outs.now.items c.deref_mut-3.result.now made)
    (disks_given c.give_back.new.outs.items _ _ c.run_windows-stored.new.dumps c.give_back.ensures c.in-Ok-dump_jobs.ensures.taken.1 (lent_back c.in-Ok-dump_jobs.jobs.len c.run_windows-stored.new.dumps _ again))

pub returns-clause-over : goal.returns-clause-over
returns-clause-over g c = λ behind.
    c.run_windows-stored.ensures.over
    (was_stored c.deref-2.result.now c.run_windows-stored.new.keeper.failed c.run_windows-stored.result c.cause_of-cause.result c.cause_of-cause.ensures behind)

pub returns-clause-whole : goal.returns-clause-whole
returns-clause-whole g c = λ behind.
    let again : c.in-Ok-dump_jobs.jobs.len ≡ length c.run_windows-stored.new.dumps = let a = c.run_windows-stored.auto.dumps in let b = c.deref_mut-3.ensures.len in omega (arith, a, b) in
    let is =
    first_same c.deref-2.result.now c.run_windows-stored.new.dumps c.run_windows-stored.new.keeper.failed (not c.run_windows-stored.result) c.cause_of-cause.result
    (c.deref-2.ensures.value ∙ lent_back c.in-Ok-dump_jobs.jobs.len c.run_windows-stored.new.dumps _ again) c.cause_of-cause.ensures in
    c.are_whole-whole.ensures.exact
    (subst (λ (jobs : List (StagedDisk g.row.D.Denot)). AllByRecursion (λ (job : StagedDisk g.row.D.Denot). (job.stage.ended ≡ true) × (is_well job.stage.end ≡ true)) jobs)
    (sym (c.deref.ensures.value ∙ lent_back c.in-Ok-dump_jobs.jobs.len c.run_windows-stored.new.dumps _ again))
    (ended_well c.run_windows-stored.new.dumps c.run_windows-stored.new.keeper.failed (not c.run_windows-stored.result) c.cause_of-cause.result is behind c.run_windows-stored.ensures.ran.ran.dumps_ended))

pub returns-clause-cause : goal.returns-clause-cause
returns-clause-cause g c =
    let w = disk_words g.D.Disk.tells g.D.Disk.seen g.D.Disk.synced g.D.Disk.pending g.D.Disk.may_leave g.D.Disk.moment g.D.Disk.left_since g.D.Disk.faults in
    let made = subst (λ (jobs : List (StagedDisk g.row.D.Denot)). AllThree (IsJobOf c.pass_start-start.result) c.args.opened.dumpers.items c.args.outs.now.items jobs) (sym c.deref_mut-3.ensures.value) c.in-Ok-dump_jobs.ensures.jobs in
    let again : c.in-Ok-dump_jobs.jobs.len ≡ length c.run_windows-stored.new.dumps = let a = c.run_windows-stored.auto.dumps in let b = c.deref_mut-3.ensures.len in omega (arith, a, b) in
    record {
      jobs = c.run_windows-stored.new.dumps;
      of_disks = disks_given c.give_back.new.outs.items _ _ c.run_windows-stored.new.dumps c.give_back.ensures c.in-Ok-dump_jobs.ensures.taken.1 (lent_back c.in-Ok-dump_jobs.jobs.len c.run_windows-stored.new.dumps _ again);
      task_failed = c.run_windows-stored.new.keeper.failed;
      wanting = not c.run_windows-stored.result;
      first =
          first_same c.deref-2.result.now c.run_windows-stored.new.dumps c.run_windows-stored.new.keeper.failed (not c.run_windows-stored.result) c.cause_of-cause.result
          (c.deref-2.ensures.value ∙ lent_back c.in-Ok-dump_jobs.jobs.len c.run_windows-stored.new.dumps _ again) c.cause_of-cause.ensures;
      outs_rose = outs_rose w c.pass_start-start.result c.args.opened.dumpers.items c.args.outs.now.items c.deref_mut-3.result.now _ c.run_windows-stored.new.dumps made c.run_windows-stored.ensures.ran.dumps;
      task_rose = λ is.
          ⊎_elim (λ (was : ◌≡◌ {A = Bool} false true). absurd cc) (λ (rose : Rose (g.D.Disk.faults c.args.task.now) (g.D.Disk.faults c.run_windows-stored.new.task)). rose) (c.run_windows-stored.ensures.fails is);
    }

pub returns-clause-last : goal.returns-clause-last
returns-clause-last g c = λ told plan logs from reads low behind.
    let w = disk_words g.D.Disk.tells g.D.Disk.seen g.D.Disk.synced g.D.Disk.pending g.D.Disk.may_leave g.D.Disk.moment g.D.Disk.left_since g.D.Disk.faults in
    let run = c.run_windows-stored in
    let failed = run.new.keeper.failed in
    let task = run.new.task in
    let first = c.cause_of-cause.result in
    let again : c.in-Ok-dump_jobs.jobs.len ≡ length run.new.dumps = let a = run.auto.dumps in let b = c.deref_mut-3.ensures.len in omega (arith, a, b) in
    let is = first_same c.deref-2.result.now run.new.dumps failed (not run.result) first (c.deref-2.ensures.value ∙ lent_back c.in-Ok-dump_jobs.jobs.len run.new.dumps _ again) c.cause_of-cause.ensures in
    let stored = was_stored run.new.dumps failed run.result first is (let far : 10 < place_of_outcome first = omega (arith, behind) in far) in
    let works = task_worked run.new.dumps failed (not run.result) first is (let far : 8 < place_of_outcome first = omega (arith, behind) in far) in
    let well = ended_well run.new.dumps failed (not run.result) first is behind run.ensures.ran.ran.dumps_ended in
    last_kept w g.N.NodePart.rereading c.args.rotation run.new.nodes (g.M.MergePart.came run.new.merge) task run.new.keeper.cell
    (λ image left. durable_left (g.D.Disk.seen task) (g.D.Disk.synced task) (g.D.Disk.pending task) image (run.ensures.standing.durable told works) (λ file. g.met.D.Disk.image_is task image told left file))
    (run.ensures.standing.knows told works) (run.ensures.last plan logs from reads low stored well works)

pub returns-clause-outs_later : goal.returns-clause-outs_later
returns-clause-outs_later g c =
    let w = disk_words g.D.Disk.tells g.D.Disk.seen g.D.Disk.synced g.D.Disk.pending g.D.Disk.may_leave g.D.Disk.moment g.D.Disk.left_since g.D.Disk.faults in
    let made = subst (λ (jobs : List (StagedDisk g.row.D.Denot)). AllThree (IsJobOf c.pass_start-start.result) c.args.opened.dumpers.items c.args.outs.now.items jobs) (sym c.deref_mut-3.ensures.value) c.in-Ok-dump_jobs.ensures.jobs in
    let again : c.in-Ok-dump_jobs.jobs.len ≡ length c.run_windows-stored.new.dumps = let a = c.run_windows-stored.auto.dumps in let b = c.deref_mut-3.ensures.len in omega (arith, a, b) in
    subst (λ (news : List g.row.D.Denot). AllZip (λ (old : g.row.D.Denot) (new : g.row.D.Denot). g.D.Disk.faults old ≤ g.D.Disk.faults new) c.args.outs.now.items news)
    (disks_given c.give_back.new.outs.items _ _ c.run_windows-stored.new.dumps c.give_back.ensures c.in-Ok-dump_jobs.ensures.taken.1 (lent_back c.in-Ok-dump_jobs.jobs.len c.run_windows-stored.new.dumps _ again))
    (outs_later w c.pass_start-start.result c.args.opened.dumpers.items c.args.outs.now.items c.deref_mut-3.result.now _ c.run_windows-stored.new.dumps made c.run_windows-stored.ensures.ran.dumps)

pub returns-in-Err-clause-outs_later : goal.returns-in-Err-clause-outs_later
returns-in-Err-clause-outs_later g c = zip_same (λ (old : g.row.D.Denot) (new : g.row.D.Denot). g.D.Disk.faults old ≤ g.D.Disk.faults new) (λ disk. omega arith) c.args.outs.now.items

pub returns-in-Err-dump_lanes-clause-outs_later : goal.returns-in-Err-dump_lanes-clause-outs_later
returns-in-Err-dump_lanes-clause-outs_later g c = zip_same (λ (old : g.row.D.Denot) (new : g.row.D.Denot). g.D.Disk.faults old ≤ g.D.Disk.faults new) (λ disk. omega arith) c.args.outs.now.items

pub returns-in-Err-dump_jobs-clause-outs_later : goal.returns-in-Err-dump_jobs-clause-outs_later
returns-in-Err-dump_jobs-clause-outs_later g c =
    subst (λ (news : List g.row.D.Denot). AllZip (λ (old : g.row.D.Denot) (new : g.row.D.Denot). g.D.Disk.faults old ≤ g.D.Disk.faults new) c.args.outs.now.items news) (sym c.in-Err-dump_jobs.ensures.kept.1)
    (zip_same (λ (old : g.row.D.Denot) (new : g.row.D.Denot). g.D.Disk.faults old ≤ g.D.Disk.faults new) (λ disk. omega arith) c.args.outs.now.items)
