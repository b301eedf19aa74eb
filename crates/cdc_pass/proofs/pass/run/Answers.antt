-- What was opened is as the windows want it; the laws of the headline, over the lists that were lent.
use Rattle.std.proofs.Common.{inl, List, length, map, Ok, Err, refl, sym, ◌∙◌, ap, subst, arith}
use Rattle.std.specs.List.{AllZip, AllByRecursion}
use Rattle.cdc_dump_stage.specs.Disks.{disk_words}
use Rattle.cdc_node_stage.specs.Job.{source_words}
use Rattle.cdc_opening.specs.Answers.{used_point}
use Rattle.cdc_opening.specs.OpenOuts.{IsOutOpened, IsOutKept}
use Rattle.cdc_opening.specs.OpenSources.{IsSourceKept}
use Rattle.cdc_opening.specs.declared.outcome.Outcome.{Outcome}
use Rattle.cdc_windows.specs.Jobs.{IsReadyOut}
use Rattle.cdc_windows.proofs.Whole.{lent_back}
use Rattle.cdc_headline.specs.Running.{HasOpened}
use Rattle.cdc_pass.specs.Starting.{output_plan, IsClear}
use Rattle.cdc_pass.proofs.Falling.{kept_falls, falls_then}
use Rattle.cdc_pass.proofs.Opened.{outs_ready, dumpers_long, sources_kept, sources_held, used_can}
use Rattle.cdc_pass.proofs.Running.{behind_keeps, behind_names, behind_unrefused, lent_behind, lent_opened, lent_headline, lent_names, lent_rose}
use Rattle.cdc_pass.proofs.pass.run.Goals as goal

pub run_from-requires-clause-many : goal.run_from-requires-clause-many
run_from-requires-clause-many g c =
    let s = source_words g.S.Source.tells g.S.Source.held g.S.Source.sizes g.S.Source.lowest g.S.Source.faults in
    let w = disk_words g.D.Disk.tells g.D.Disk.seen g.D.Disk.synced g.D.Disk.pending g.D.Disk.may_leave g.D.Disk.moment g.D.Disk.left_since g.D.Disk.faults in
    dumpers_long (IsOutOpened w.tells w.seen w.synced w.pending) c.deref_mut-2.result.now c.in-Ok.opened.dumpers.items c.open_pass.new.outs c.in-Ok.ensures.opened ∙ ap (λ (list : List g.row.D.Denot). length list) (sym (lent_back c.args.outs.now.len c.open_pass.new.outs _ (let a = c.open_pass.auto.outs in let b = c.deref_mut-2.ensures.len in omega (arith, a, b))))

pub run_from-requires-clause-ready : goal.run_from-requires-clause-ready
run_from-requires-clause-ready g c =
    let s = source_words g.S.Source.tells g.S.Source.held g.S.Source.sizes g.S.Source.lowest g.S.Source.faults in
    let w = disk_words g.D.Disk.tells g.D.Disk.seen g.D.Disk.synced g.D.Disk.pending g.D.Disk.may_leave g.D.Disk.moment g.D.Disk.left_since g.D.Disk.faults in
    subst (λ (list : List g.row.D.Denot). AllZip (IsReadyOut w) c.in-Ok.opened.dumpers.items list) (sym (lent_back c.args.outs.now.len c.open_pass.new.outs _ (let a = c.open_pass.auto.outs in let b = c.deref_mut-2.ensures.len in omega (arith, a, b))))
    (outs_ready w c.deref_mut-2.result.now c.in-Ok.opened.dumpers.items c.open_pass.new.outs c.in-Ok.ensures.opened
    (λ told. subst (λ (list : List g.row.D.Denot). AllByRecursion (λ (disk : g.row.D.Denot). IsClear (w.seen disk)) list) (sym c.deref_mut-2.ensures.value) (c.requires.clear told)))

pub run_from-requires-clause-can : goal.run_from-requires-clause-can
run_from-requires-clause-can g c =
    let s = source_words g.S.Source.tells g.S.Source.held g.S.Source.sizes g.S.Source.lowest g.S.Source.faults in
    let w = disk_words g.D.Disk.tells g.D.Disk.seen g.D.Disk.synced g.D.Disk.pending g.D.Disk.may_leave g.D.Disk.moment g.D.Disk.left_since g.D.Disk.faults in
    used_can g.S.Source.held g.S.Source.sizes g.S.Source.lowest g.S.Source.highest g.S.Source.faults c.deref_mut.result.now _ (used_point c.in-Ok.opened.start c.in-Ok.opened.kept)
    (subst (λ (list : List g.row.S.Denot). AllZip (IsSourceKept g.S.Source.held g.S.Source.sizes g.S.Source.lowest g.S.Source.highest g.S.Source.faults) c.deref_mut.result.now list) (sym (lent_back c.args.nodes.now.len c.open_pass.new.nodes _ (let a = c.open_pass.auto.nodes in let b = c.deref_mut.ensures.len in omega (arith, a, b)))) c.in-Ok.ensures.nodes_kept) c.in-Ok.ensures.can

pub returns-in-Ok-clause-headline : goal.returns-in-Ok-clause-headline
returns-in-Ok-clause-headline g c = λ w_tells s_tells logs over.
    let s = source_words g.S.Source.tells g.S.Source.held g.S.Source.sizes g.S.Source.lowest g.S.Source.faults in
    let w = disk_words g.D.Disk.tells g.D.Disk.seen g.D.Disk.synced g.D.Disk.pending g.D.Disk.may_leave g.D.Disk.moment g.D.Disk.left_since g.D.Disk.faults in
    let has : HasOpened s w (output_plan c.args.plan.now) c.deref_mut.result.now c.open_pass.new.nodes c.deref_mut-2.result.now c.open_pass.new.outs c.args.task.now c.open_pass.new.task (Ok c.in-Ok.opened) = record {
      disks = c.in-Ok.ensures.disks w_tells;
      logs = c.in-Ok.ensures.logs w_tells s_tells;
      start = c.in-Ok.ensures.start;
      opened = c.in-Ok.ensures.opened;
      outs_kept = c.in-Ok.ensures.outs_kept;
      task_kept = c.in-Ok.ensures.task_kept;
      nodes_kept = sources_kept s g.S.Source.highest c.deref_mut.result.now c.open_pass.new.nodes c.in-Ok.ensures.nodes_kept;
    } in
    behind_keeps s w c.opening_keeps_headline.ensures c.windows_keep_headline.ensures (output_plan c.args.plan.now) logs c.args.nodes.now.items c.open_pass.new.nodes c.run_from.new.nodes.items c.args.outs.now.items c.open_pass.new.outs c.run_from.new.outs.items c.args.task.now c.open_pass.new.task c.run_from.new.task c.in-Ok.opened c.run_from.result s_tells w_tells over
    (lent_opened s w (output_plan c.args.plan.now) c.deref_mut.result.now c.open_pass.new.nodes c.deref_mut-2.result.now c.open_pass.new.outs c.args.task.now c.open_pass.new.task (Ok c.in-Ok.opened) c.args.nodes.now.items c.args.outs.now.items has c.deref_mut.ensures.value c.deref_mut-2.ensures.value)
    (lent_behind s w (output_plan c.args.plan.now) c.in-Ok.opened _ c.run_from.new.nodes.items _ c.run_from.new.outs.items c.open_pass.new.task c.run_from.new.task c.run_from.result c.open_pass.new.nodes c.open_pass.new.outs c.run_from.ensures.ran (lent_back c.args.nodes.now.len c.open_pass.new.nodes _ (let a = c.open_pass.auto.nodes in let b = c.deref_mut.ensures.len in omega (arith, a, b))) (lent_back c.args.outs.now.len c.open_pass.new.outs _ (let a = c.open_pass.auto.outs in let b = c.deref_mut-2.ensures.len in omega (arith, a, b))))

pub returns-in-Ok-clause-refused : goal.returns-in-Ok-clause-refused
returns-in-Ok-clause-refused g c = λ w_tells s_tells refused.
    let s = source_words g.S.Source.tells g.S.Source.held g.S.Source.sizes g.S.Source.lowest g.S.Source.faults in
    let w = disk_words g.D.Disk.tells g.D.Disk.seen g.D.Disk.synced g.D.Disk.pending g.D.Disk.may_leave g.D.Disk.moment g.D.Disk.left_since g.D.Disk.faults in
    absurd (behind_unrefused s w (output_plan c.args.plan.now) c.in-Ok.opened c.open_pass.new.nodes c.run_from.new.nodes.items c.open_pass.new.outs c.run_from.new.outs.items c.open_pass.new.task c.run_from.new.task c.run_from.result (lent_behind s w (output_plan c.args.plan.now) c.in-Ok.opened _ c.run_from.new.nodes.items _ c.run_from.new.outs.items c.open_pass.new.task c.run_from.new.task c.run_from.result c.open_pass.new.nodes c.open_pass.new.outs c.run_from.ensures.ran (lent_back c.args.nodes.now.len c.open_pass.new.nodes _ (let a = c.open_pass.auto.nodes in let b = c.deref_mut.ensures.len in omega (arith, a, b))) (lent_back c.args.outs.now.len c.open_pass.new.outs _ (let a = c.open_pass.auto.outs in let b = c.deref_mut-2.ensures.len in omega (arith, a, b)))) refused)

pub returns-in-Ok-clause-out_failed : goal.returns-in-Ok-clause-out_failed
returns-in-Ok-clause-out_failed g c = λ number is.
    let s = source_words g.S.Source.tells g.S.Source.held g.S.Source.sizes g.S.Source.lowest g.S.Source.faults in
    let w = disk_words g.D.Disk.tells g.D.Disk.seen g.D.Disk.synced g.D.Disk.pending g.D.Disk.may_leave g.D.Disk.moment g.D.Disk.left_since g.D.Disk.faults in
    (lent_names s w c.deref_mut.result.now c.run_from.new.nodes.items c.deref_mut-2.result.now c.run_from.new.outs.items c.args.task.now c.run_from.new.task c.run_from.result c.args.nodes.now.items c.args.outs.now.items
    (behind_names s w c.windows_name_by_counts.ensures (output_plan c.args.plan.now) c.deref_mut.result.now c.open_pass.new.nodes c.run_from.new.nodes.items c.deref_mut-2.result.now c.open_pass.new.outs c.run_from.new.outs.items c.args.task.now c.open_pass.new.task c.run_from.new.task c.in-Ok.opened c.run_from.result (sources_kept s g.S.Source.highest c.deref_mut.result.now c.open_pass.new.nodes c.in-Ok.ensures.nodes_kept) c.in-Ok.ensures.outs_kept c.in-Ok.ensures.task_kept
    (lent_behind s w (output_plan c.args.plan.now) c.in-Ok.opened _ c.run_from.new.nodes.items _ c.run_from.new.outs.items c.open_pass.new.task c.run_from.new.task c.run_from.result c.open_pass.new.nodes c.open_pass.new.outs c.run_from.ensures.ran (lent_back c.args.nodes.now.len c.open_pass.new.nodes _ (let a = c.open_pass.auto.nodes in let b = c.deref_mut.ensures.len in omega (arith, a, b))) (lent_back c.args.outs.now.len c.open_pass.new.outs _ (let a = c.open_pass.auto.outs in let b = c.deref_mut-2.ensures.len in omega (arith, a, b))))) c.deref_mut.ensures.value c.deref_mut-2.ensures.value).outs_rose number is

pub returns-in-Ok-clause-task_failed : goal.returns-in-Ok-clause-task_failed
returns-in-Ok-clause-task_failed g c = λ is.
    let s = source_words g.S.Source.tells g.S.Source.held g.S.Source.sizes g.S.Source.lowest g.S.Source.faults in
    let w = disk_words g.D.Disk.tells g.D.Disk.seen g.D.Disk.synced g.D.Disk.pending g.D.Disk.may_leave g.D.Disk.moment g.D.Disk.left_since g.D.Disk.faults in
    (lent_names s w c.deref_mut.result.now c.run_from.new.nodes.items c.deref_mut-2.result.now c.run_from.new.outs.items c.args.task.now c.run_from.new.task c.run_from.result c.args.nodes.now.items c.args.outs.now.items
    (behind_names s w c.windows_name_by_counts.ensures (output_plan c.args.plan.now) c.deref_mut.result.now c.open_pass.new.nodes c.run_from.new.nodes.items c.deref_mut-2.result.now c.open_pass.new.outs c.run_from.new.outs.items c.args.task.now c.open_pass.new.task c.run_from.new.task c.in-Ok.opened c.run_from.result (sources_kept s g.S.Source.highest c.deref_mut.result.now c.open_pass.new.nodes c.in-Ok.ensures.nodes_kept) c.in-Ok.ensures.outs_kept c.in-Ok.ensures.task_kept
    (lent_behind s w (output_plan c.args.plan.now) c.in-Ok.opened _ c.run_from.new.nodes.items _ c.run_from.new.outs.items c.open_pass.new.task c.run_from.new.task c.run_from.result c.open_pass.new.nodes c.open_pass.new.outs c.run_from.ensures.ran (lent_back c.args.nodes.now.len c.open_pass.new.nodes _ (let a = c.open_pass.auto.nodes in let b = c.deref_mut.ensures.len in omega (arith, a, b))) (lent_back c.args.outs.now.len c.open_pass.new.outs _ (let a = c.open_pass.auto.outs in let b = c.deref_mut-2.ensures.len in omega (arith, a, b))))) c.deref_mut.ensures.value c.deref_mut-2.ensures.value).task_rose is

pub returns-in-Ok-clause-node_failed : goal.returns-in-Ok-clause-node_failed
returns-in-Ok-clause-node_failed g c = λ number is.
    let s = source_words g.S.Source.tells g.S.Source.held g.S.Source.sizes g.S.Source.lowest g.S.Source.faults in
    let w = disk_words g.D.Disk.tells g.D.Disk.seen g.D.Disk.synced g.D.Disk.pending g.D.Disk.may_leave g.D.Disk.moment g.D.Disk.left_since g.D.Disk.faults in
    (lent_names s w c.deref_mut.result.now c.run_from.new.nodes.items c.deref_mut-2.result.now c.run_from.new.outs.items c.args.task.now c.run_from.new.task c.run_from.result c.args.nodes.now.items c.args.outs.now.items
    (behind_names s w c.windows_name_by_counts.ensures (output_plan c.args.plan.now) c.deref_mut.result.now c.open_pass.new.nodes c.run_from.new.nodes.items c.deref_mut-2.result.now c.open_pass.new.outs c.run_from.new.outs.items c.args.task.now c.open_pass.new.task c.run_from.new.task c.in-Ok.opened c.run_from.result (sources_kept s g.S.Source.highest c.deref_mut.result.now c.open_pass.new.nodes c.in-Ok.ensures.nodes_kept) c.in-Ok.ensures.outs_kept c.in-Ok.ensures.task_kept
    (lent_behind s w (output_plan c.args.plan.now) c.in-Ok.opened _ c.run_from.new.nodes.items _ c.run_from.new.outs.items c.open_pass.new.task c.run_from.new.task c.run_from.result c.open_pass.new.nodes c.open_pass.new.outs c.run_from.ensures.ran (lent_back c.args.nodes.now.len c.open_pass.new.nodes _ (let a = c.open_pass.auto.nodes in let b = c.deref_mut.ensures.len in omega (arith, a, b))) (lent_back c.args.outs.now.len c.open_pass.new.outs _ (let a = c.open_pass.auto.outs in let b = c.deref_mut-2.ensures.len in omega (arith, a, b))))) c.deref_mut.ensures.value c.deref_mut-2.ensures.value).nodes_rose number is

pub returns-in-Ok-clause-held : goal.returns-in-Ok-clause-held
returns-in-Ok-clause-held g c =
    let s = source_words g.S.Source.tells g.S.Source.held g.S.Source.sizes g.S.Source.lowest g.S.Source.faults in
    let w = disk_words g.D.Disk.tells g.D.Disk.seen g.D.Disk.synced g.D.Disk.pending g.D.Disk.may_leave g.D.Disk.moment g.D.Disk.left_since g.D.Disk.faults in
    c.run_from.ensures.held
    ∙ (ap (λ (list : List g.row.S.Denot). map g.S.Source.held list) (lent_back c.args.nodes.now.len c.open_pass.new.nodes _ (let a = c.open_pass.auto.nodes in let b = c.deref_mut.ensures.len in omega (arith, a, b)))
    ∙ (sources_held s c.deref_mut.result.now c.open_pass.new.nodes (sources_kept s g.S.Source.highest c.deref_mut.result.now c.open_pass.new.nodes c.in-Ok.ensures.nodes_kept) ∙ ap (λ (list : List g.row.S.Denot). map g.S.Source.held list) c.deref_mut.ensures.value))

pub returns-in-Err-clause-headline : goal.returns-in-Err-clause-headline
returns-in-Err-clause-headline g c = λ w_tells s_tells logs over.
    let s = source_words g.S.Source.tells g.S.Source.held g.S.Source.sizes g.S.Source.lowest g.S.Source.faults in
    let w = disk_words g.D.Disk.tells g.D.Disk.seen g.D.Disk.synced g.D.Disk.pending g.D.Disk.may_leave g.D.Disk.moment g.D.Disk.left_since g.D.Disk.faults in
    let has : HasOpened s w (output_plan c.args.plan.now) c.deref_mut.result.now c.open_pass.new.nodes c.deref_mut-2.result.now c.open_pass.new.outs c.args.task.now c.open_pass.new.task (Err c.in-Err.outcome) = record {
      disks = c.in-Err.ensures.disks w_tells;
      logs = c.in-Err.ensures.logs w_tells s_tells;
      start = c.in-Err.ensures.start;
      opened = c.in-Err.ensures.opened;
      outs_kept = c.in-Err.ensures.outs_kept;
      task_kept = c.in-Err.ensures.task_kept;
      nodes_kept = sources_kept s g.S.Source.highest c.deref_mut.result.now c.open_pass.new.nodes c.in-Err.ensures.nodes_kept;
    } in
    lent_headline s w (output_plan c.args.plan.now) logs c.args.nodes.now.items c.open_pass.new.nodes _ c.args.outs.now.items c.open_pass.new.outs _ c.args.task.now c.open_pass.new.task c.in-Err.outcome
    (c.opening_keeps_headline.ensures (output_plan c.args.plan.now) logs c.args.nodes.now.items c.open_pass.new.nodes c.args.outs.now.items c.open_pass.new.outs c.args.task.now c.open_pass.new.task (Err c.in-Err.outcome) c.in-Err.outcome s_tells w_tells over
    (lent_opened s w (output_plan c.args.plan.now) c.deref_mut.result.now c.open_pass.new.nodes c.deref_mut-2.result.now c.open_pass.new.outs c.args.task.now c.open_pass.new.task (Err c.in-Err.outcome) c.args.nodes.now.items c.args.outs.now.items has c.deref_mut.ensures.value c.deref_mut-2.ensures.value) (inl refl))
    (sym (lent_back c.args.nodes.now.len c.open_pass.new.nodes _ (let a = c.open_pass.auto.nodes in let b = c.deref_mut.ensures.len in omega (arith, a, b)))) (sym (lent_back c.args.outs.now.len c.open_pass.new.outs _ (let a = c.open_pass.auto.outs in let b = c.deref_mut-2.ensures.len in omega (arith, a, b))))

pub returns-in-Err-clause-node_failed : goal.returns-in-Err-clause-node_failed
returns-in-Err-clause-node_failed g c = λ number is.
    let s = source_words g.S.Source.tells g.S.Source.held g.S.Source.sizes g.S.Source.lowest g.S.Source.faults in
    let w = disk_words g.D.Disk.tells g.D.Disk.seen g.D.Disk.synced g.D.Disk.pending g.D.Disk.may_leave g.D.Disk.moment g.D.Disk.left_since g.D.Disk.faults in
    lent_rose g.S.Source.faults number c.deref_mut.result.now c.open_pass.new.nodes c.args.nodes.now.items _ (c.in-Err.ensures.node_failed number (ap (λ (o : Outcome). Err o) is)) c.deref_mut.ensures.value (sym (lent_back c.args.nodes.now.len c.open_pass.new.nodes _ (let a = c.open_pass.auto.nodes in let b = c.deref_mut.ensures.len in omega (arith, a, b))))

pub returns-in-Err-clause-held : goal.returns-in-Err-clause-held
returns-in-Err-clause-held g c =
    let s = source_words g.S.Source.tells g.S.Source.held g.S.Source.sizes g.S.Source.lowest g.S.Source.faults in
    let w = disk_words g.D.Disk.tells g.D.Disk.seen g.D.Disk.synced g.D.Disk.pending g.D.Disk.may_leave g.D.Disk.moment g.D.Disk.left_since g.D.Disk.faults in
    ap (λ (list : List g.row.S.Denot). map g.S.Source.held list) (lent_back c.args.nodes.now.len c.open_pass.new.nodes _ (let a = c.open_pass.auto.nodes in let b = c.deref_mut.ensures.len in omega (arith, a, b)))
    ∙ (sources_held s c.deref_mut.result.now c.open_pass.new.nodes (sources_kept s g.S.Source.highest c.deref_mut.result.now c.open_pass.new.nodes c.in-Err.ensures.nodes_kept) ∙ ap (λ (list : List g.row.S.Denot). map g.S.Source.held list) c.deref_mut.ensures.value)

pub returns-in-Ok-clause-nodes_later : goal.returns-in-Ok-clause-nodes_later
returns-in-Ok-clause-nodes_later g c = falls_then g.S.Source.faults c.args.nodes.now.items _ c.run_from.new.nodes.items
    (kept_falls g.S.Source.faults (IsSourceKept g.S.Source.held g.S.Source.sizes g.S.Source.lowest g.S.Source.highest g.S.Source.faults) (λ old new kept. kept.later) c.deref_mut.result.now c.open_pass.new.nodes c.args.nodes.now.items _
    c.in-Ok.ensures.nodes_kept c.deref_mut.ensures.value (sym (lent_back c.args.nodes.now.len c.open_pass.new.nodes _ (let a = c.open_pass.auto.nodes in let b = c.deref_mut.ensures.len in omega (arith, a, b)))))
    c.run_from.ensures.nodes_later

pub returns-in-Ok-clause-outs_later : goal.returns-in-Ok-clause-outs_later
returns-in-Ok-clause-outs_later g c = falls_then g.D.Disk.faults c.args.outs.now.items _ c.run_from.new.outs.items
    (kept_falls g.D.Disk.faults (IsOutKept g.D.Disk.tells g.D.Disk.seen g.D.Disk.may_leave g.D.Disk.moment g.D.Disk.left_since g.D.Disk.faults) (λ old new kept. kept.later) c.deref_mut-2.result.now c.open_pass.new.outs c.args.outs.now.items _
    c.in-Ok.ensures.outs_kept c.deref_mut-2.ensures.value (sym (lent_back c.args.outs.now.len c.open_pass.new.outs _ (let a = c.open_pass.auto.outs in let b = c.deref_mut-2.ensures.len in omega (arith, a, b)))))
    c.run_from.ensures.outs_later

pub returns-in-Ok-clause-task_later : goal.returns-in-Ok-clause-task_later
returns-in-Ok-clause-task_later g c = let low = c.in-Ok.ensures.task_kept.later in let high = c.run_from.ensures.task_later in omega (arith, low, high)

pub returns-in-Err-clause-nodes_later : goal.returns-in-Err-clause-nodes_later
returns-in-Err-clause-nodes_later g c = (kept_falls g.S.Source.faults (IsSourceKept g.S.Source.held g.S.Source.sizes g.S.Source.lowest g.S.Source.highest g.S.Source.faults) (λ old new kept. kept.later) c.deref_mut.result.now c.open_pass.new.nodes c.args.nodes.now.items _
    c.in-Err.ensures.nodes_kept c.deref_mut.ensures.value (sym (lent_back c.args.nodes.now.len c.open_pass.new.nodes _ (let a = c.open_pass.auto.nodes in let b = c.deref_mut.ensures.len in omega (arith, a, b)))))

pub returns-in-Err-clause-outs_later : goal.returns-in-Err-clause-outs_later
returns-in-Err-clause-outs_later g c = (kept_falls g.D.Disk.faults (IsOutKept g.D.Disk.tells g.D.Disk.seen g.D.Disk.may_leave g.D.Disk.moment g.D.Disk.left_since g.D.Disk.faults) (λ old new kept. kept.later) c.deref_mut-2.result.now c.open_pass.new.outs c.args.outs.now.items _
    c.in-Err.ensures.outs_kept c.deref_mut-2.ensures.value (sym (lent_back c.args.outs.now.len c.open_pass.new.outs _ (let a = c.open_pass.auto.outs in let b = c.deref_mut-2.ensures.len in omega (arith, a, b)))))

pub returns-in-Err-clause-task_later : goal.returns-in-Err-clause-task_later
returns-in-Err-clause-task_later g c = c.in-Err.ensures.task_kept.later
