-- What is opened, and what the sources refuse.
use Rattle.std.proofs.Common.{◌≡◌, ap, length, map, Result, Err}
use Rattle.cdc_opening.specs.declared.outcome.Outcome.{Outcome}
use Rattle.cdc_opening.specs.declared.outcome.Outcome.TheVariants.{Read}
use Rattle.cdc_opening.specs.Answers.{used_point}
use Rattle.cdc_opening.specs.OpenSources.{IsSourceKept}
use Rattle.cdc_opening.proofs.Found.{fronts_found, all_open, goes_on, task_opens}
use Rattle.cdc_opening.proofs.Refusals.{sources_answer, sources_answer_logs}
use Rattle.cdc_opening.proofs.Rising.{source_same}
use Rattle.cdc_opening.proofs.Zips.{zip_same}
use Rattle.cdc_opening.proofs.opening.open_pass.Goals as goal

pub returns-in-Err-clause-nodes_kept : goal.returns-in-Err-clause-nodes_kept
returns-in-Err-clause-nodes_kept g c =
    zip_same (IsSourceKept g.S.Source.held g.S.Source.sizes g.S.Source.lowest g.S.Source.highest g.S.Source.faults)
    (source_same g.S.Source.held g.S.Source.sizes g.S.Source.lowest g.S.Source.highest g.S.Source.faults) c.args.nodes.now

pub returns-in-Ok-open_sources-clause-disks : goal.returns-in-Ok-open_sources-clause-disks
returns-in-Ok-open_sources-clause-disks g c = λ told. (
  fronts_found g.D.Disk.tells g.D.Disk.seen g.D.Disk.synced g.D.Disk.pending told c.args.outs.now c.in-Ok.opened.dumpers.items c.open_disks.new.outs c.in-Ok.ensures.opened,
  (c.in-Ok.ensures.task told).has,
  c.in-Ok.ensures.fits,
)

pub returns-in-Err-open_sources-clause-disks : goal.returns-in-Err-open_sources-clause-disks
returns-in-Err-open_sources-clause-disks g c = λ told.
    sources_answer g.S.Source.tells (map g.D.Disk.seen c.args.outs.now) (g.D.Disk.seen c.args.task.now) (length c.args.nodes.now) c.args.rotation (map g.S.Source.held c.args.nodes.now)
    (all_open g.D.Disk.tells g.D.Disk.seen g.D.Disk.synced g.D.Disk.pending c.args.outs.now c.in-Ok.opened.dumpers.items c.open_disks.new.outs c.in-Ok.ensures.opened told)
    (task_opens (g.D.Disk.seen c.args.task.now) (length c.args.nodes.now) c.args.rotation c.in-Ok.opened.cell c.in-Ok.opened.kept (c.in-Ok.ensures.task told))
    (used_point c.in-Ok.opened.start c.in-Ok.opened.kept) c.in-Err-open_sources.outcome c.in-Err-open_sources.ensures.refused

pub returns-in-Err-open_sources-clause-logs : goal.returns-in-Err-open_sources-clause-logs
returns-in-Err-open_sources-clause-logs g c = λ told also.
    sources_answer_logs g.S.Source.tells (map g.D.Disk.seen c.args.outs.now) (g.D.Disk.seen c.args.task.now) (length c.args.nodes.now) c.args.rotation (map g.S.Source.held c.args.nodes.now) also
    (used_point c.in-Ok.opened.start c.in-Ok.opened.kept)
    (goes_on g.D.Disk.tells g.D.Disk.seen g.D.Disk.synced g.D.Disk.pending told c.args.outs.now c.in-Ok.opened.dumpers.items c.open_disks.new.outs (g.D.Disk.seen c.args.task.now) (length c.args.nodes.now) c.args.rotation
    c.in-Ok.opened.cell c.in-Ok.opened.kept c.in-Ok.opened.start c.in-Ok.ensures.opened (c.in-Ok.ensures.task told) c.in-Ok.ensures.start)
    c.in-Err-open_sources.outcome c.in-Err-open_sources.ensures.refused

pub returns-in-Err-open_sources-clause-node_failed : goal.returns-in-Err-open_sources-clause-node_failed
returns-in-Err-open_sources-clause-node_failed g c number is =
    let outcome : c.in-Err-open_sources.outcome ≡ Read number = cc in
    c.in-Err-open_sources.ensures.failed number (let e : ◌≡◌ {A = Result (Unit {0}) Outcome} (Err c.in-Err-open_sources.outcome) (Err (Read number)) = ap (λ (o : Outcome). Err o) outcome in e)
