-- Jobs begin where their stages do, and their sources come back.
use Rattle.std.proofs.Common.{rules, ◌≡◌, ◌≤◌, List, length, map, sym, ◌∙◌, ap, subst, arith}
use Rattle.std.specs.List.{AllByRecursion, AllZip}
use Rattle.cdc_base.specs.declared.key.Key.{Key}
use Rattle.cdc_dump_stage.specs.Disks.{disk_words}
use Rattle.cdc_merge_stage.specs.declared.start.MergeStart.{MergeStart}
use Rattle.cdc_node_stage.specs.declared.stage.NodeStage.{NodeStage}
use Rattle.cdc_node_stage.specs.Job.{source_words, SourcedStage}
use Rattle.cdc_reads.specs.Begun.{AllBegin}
use Rattle.cdc_windows.specs.Jobs.{pass_start}
use Rattle.cdc_windows.proofs.Whole.{lent_back}
use Rattle.cdc_headline.specs.Running.{sources_of}
use Rattle.cdc_pass.specs.Starting.{output_plan, StagesBegin, HasSentNothing}
use Rattle.cdc_pass.proofs.Beginning.{stages_long, stages_behind, jobs_begin, jobs_fresh}
use Rattle.cdc_pass.proofs.Falling.{none_falls, same_falls}
use Rattle.cdc_pass.proofs.Listing.{given_back}
use Rattle.cdc_pass.proofs.Ran.{pass_ran, still_held, none_fell}
use Rattle.cdc_pass.proofs.pass.run_stages.Goals as goal

pub node_jobs-requires-clause-begun : goal.node_jobs-requires-clause-begun
node_jobs-requires-clause-begun g c = stages_behind 1 c.args.start.last c.requires.stages.0 c.args.stages.items c.requires.stages.2

pub node_jobs-requires-clause-many : goal.node_jobs-requires-clause-many
node_jobs-requires-clause-many g c = stages_long 1 c.args.start.last c.requires.stages.0 c.args.stages.items c.requires.stages.2 ∙ c.requires.stages.1

pub run_jobs-outcome-requires-clause-begun : goal.run_jobs-outcome-requires-clause-begun
run_jobs-outcome-requires-clause-begun g c =
    subst (λ (jobs : List (SourcedStage g.row.S.Denot)). AllByRecursion (HasSentNothing g.S.Source.tells g.S.Source.held) jobs) (sym c.deref_mut.ensures.value)
    (jobs_fresh g.S.Source.tells g.S.Source.held 1 c.args.start.last c.requires.stages.0 c.in-Ok-node_jobs.jobs.items
    (subst (λ (stages : List NodeStage). StagesBegin 1 c.args.start.last c.requires.stages.0 stages) (sym c.in-Ok-node_jobs.ensures.jobs.0) c.requires.stages.2))

pub returns-clause-ran : goal.returns-clause-ran
returns-clause-ran g c = λ from start_is begin.
    let again : c.in-Ok-node_jobs.jobs.len ≡ length c.run_jobs-outcome.new.jobs = let a = c.run_jobs-outcome.auto.jobs in let b = c.deref_mut.ensures.len in omega (arith, a, b) in
    let jobs = subst (λ (stages : List NodeStage). StagesBegin 1 c.args.start.last from.points stages) (sym c.in-Ok-node_jobs.ensures.jobs.0) begin in
    let begun : AllBegin 1 from.last from.points c.in-Ok-node_jobs.jobs.items =
    subst (λ (last : Key). AllBegin 1 last from.points c.in-Ok-node_jobs.jobs.items) (ap (λ (s : MergeStart). s.last) start_is) (jobs_begin 1 c.args.start.last from.points c.in-Ok-node_jobs.jobs.items jobs) in
    pass_ran (source_words g.S.Source.tells g.S.Source.held g.S.Source.sizes g.S.Source.lowest g.S.Source.faults)
    (disk_words g.D.Disk.tells g.D.Disk.seen g.D.Disk.synced g.D.Disk.pending g.D.Disk.may_leave g.D.Disk.moment g.D.Disk.left_since g.D.Disk.faults) (output_plan c.args.plan.now) from c.args.opened.dumpers.items
    (pass_start c.args.opened.kept c.args.opened.start) c.deref_mut.result.now c.in-Ok.merge c.run_jobs-outcome.new.jobs c.run_jobs-outcome.new.merge c.args.nodes.now.items c.give_sources.new.sources.items c.args.outs.now.items
    c.run_jobs-outcome.new.outs.items c.args.task.now c.run_jobs-outcome.new.task c.run_jobs-outcome.result (ap (λ (js : List (SourcedStage g.row.S.Denot)). sources_of js) c.deref_mut.ensures.value ∙ c.in-Ok-node_jobs.ensures.jobs.1)
    (given_back (λ (job : SourcedStage g.row.S.Denot). job.source) c.give_sources.new.sources.items _ _ c.run_jobs-outcome.new.jobs c.give_sources.ensures c.in-Ok-node_jobs.ensures.taken
    (lent_back c.in-Ok-node_jobs.jobs.len c.run_jobs-outcome.new.jobs _ again))
    (subst (λ (js : List (SourcedStage g.row.S.Denot)). AllBegin 1 from.last from.points js) (sym c.deref_mut.ensures.value) begun) (c.in-Ok.ensures.parts.0 ∙ start_is) c.in-Ok.ensures.parts.2 c.in-Ok.ensures.parts.3
    c.run_jobs-outcome.ensures.ran

pub returns-clause-held : goal.returns-clause-held
returns-clause-held g c =
    let again : c.in-Ok-node_jobs.jobs.len ≡ length c.run_jobs-outcome.new.jobs = let a = c.run_jobs-outcome.auto.jobs in let b = c.deref_mut.ensures.len in omega (arith, a, b) in
    sym
    (ap (λ (sources : List g.row.S.Denot). map g.S.Source.held sources)
    (given_back (λ (job : SourcedStage g.row.S.Denot). job.source) c.give_sources.new.sources.items _ _ c.run_jobs-outcome.new.jobs c.give_sources.ensures c.in-Ok-node_jobs.ensures.taken
    (lent_back c.in-Ok-node_jobs.jobs.len c.run_jobs-outcome.new.jobs _ again)))
    ∙ (still_held (source_words g.S.Source.tells g.S.Source.held g.S.Source.sizes g.S.Source.lowest g.S.Source.faults)
    (disk_words g.D.Disk.tells g.D.Disk.seen g.D.Disk.synced g.D.Disk.pending g.D.Disk.may_leave g.D.Disk.moment g.D.Disk.left_since g.D.Disk.faults) c.args.plan.now.rotation c.args.opened.dumpers.items
    (pass_start c.args.opened.kept c.args.opened.start) c.deref_mut.result.now c.in-Ok.merge c.run_jobs-outcome.new.jobs c.run_jobs-outcome.new.merge c.args.outs.now.items c.run_jobs-outcome.new.outs.items c.args.task.now
    c.run_jobs-outcome.new.task c.run_jobs-outcome.result c.run_jobs-outcome.ensures.ran
    ∙ ap (λ (sources : List g.row.S.Denot). map g.S.Source.held sources) (ap (λ (js : List (SourcedStage g.row.S.Denot)). sources_of js) c.deref_mut.ensures.value ∙ c.in-Ok-node_jobs.ensures.jobs.1))

pub returns-clause-nodes_later : goal.returns-clause-nodes_later
returns-clause-nodes_later g c =
    let again : c.in-Ok-node_jobs.jobs.len ≡ length c.run_jobs-outcome.new.jobs = let a = c.run_jobs-outcome.auto.jobs in let b = c.deref_mut.ensures.len in omega (arith, a, b) in
    subst (λ (list : List g.row.S.Denot). AllZip (λ (old : g.row.S.Denot) (new : g.row.S.Denot). g.S.Source.faults old ≤ g.S.Source.faults new) list c.give_sources.new.sources.items)
    (ap (λ (js : List (SourcedStage g.row.S.Denot)). sources_of js) c.deref_mut.ensures.value ∙ c.in-Ok-node_jobs.ensures.jobs.1)
    (subst (λ (list : List g.row.S.Denot). AllZip (λ (old : g.row.S.Denot) (new : g.row.S.Denot). g.S.Source.faults old ≤ g.S.Source.faults new) (sources_of c.deref_mut.result.now) list)
    (given_back (λ (job : SourcedStage g.row.S.Denot). job.source) c.give_sources.new.sources.items _ _ c.run_jobs-outcome.new.jobs c.give_sources.ensures c.in-Ok-node_jobs.ensures.taken
    (lent_back c.in-Ok-node_jobs.jobs.len c.run_jobs-outcome.new.jobs _ again))
    (none_fell (source_words g.S.Source.tells g.S.Source.held g.S.Source.sizes g.S.Source.lowest g.S.Source.faults)
    (disk_words g.D.Disk.tells g.D.Disk.seen g.D.Disk.synced g.D.Disk.pending g.D.Disk.may_leave g.D.Disk.moment g.D.Disk.left_since g.D.Disk.faults) c.args.plan.now.rotation c.args.opened.dumpers.items
    (pass_start c.args.opened.kept c.args.opened.start) c.deref_mut.result.now c.in-Ok.merge c.run_jobs-outcome.new.jobs c.run_jobs-outcome.new.merge c.args.outs.now.items c.run_jobs-outcome.new.outs.items c.args.task.now
    c.run_jobs-outcome.new.task c.run_jobs-outcome.result c.run_jobs-outcome.ensures.ran))

pub returns-in_default-clause-nodes_later : goal.returns-in_default-clause-nodes_later
returns-in_default-clause-nodes_later g c = none_falls g.S.Source.faults c.args.nodes.now.items

pub returns-in_default-clause-outs_later : goal.returns-in_default-clause-outs_later
returns-in_default-clause-outs_later g c = none_falls g.D.Disk.faults c.args.outs.now.items

pub returns-in_default-node_jobs-clause-nodes_later : goal.returns-in_default-node_jobs-clause-nodes_later
returns-in_default-node_jobs-clause-nodes_later g c =
    let same : c.node_jobs.new.sources.items ≡ c.args.nodes.now.items = search rules in
    same_falls g.S.Source.faults c.args.nodes.now.items c.node_jobs.new.sources.items same

pub returns-in_default-node_jobs-clause-outs_later : goal.returns-in_default-node_jobs-clause-outs_later
returns-in_default-node_jobs-clause-outs_later g c = none_falls g.D.Disk.faults c.args.outs.now.items
