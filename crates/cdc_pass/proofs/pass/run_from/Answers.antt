-- The stages begin at the points of what was opened, or at the starts of the logs.
use Rattle.std.proofs.Common.{◌≡◌, ◌<◌, ◌^◌, List, length, sym, ◌∙◌, ap, subst}
use Rattle.std.specs.List.{AllByRecursion}
use Rattle.cdc_kept.specs.Kept.{opened_start}
use Rattle.cdc_model.specs.Restart.{RestartPoint}
use Rattle.cdc_opening.specs.Answers.{used_point}
use Rattle.cdc_records.specs.Checkpoint.{IsCut, IsPoint}
use Rattle.cdc_pass.proofs.Falling.{none_falls}
use Rattle.cdc_pass.proofs.Opened.{start_cuts, start_small, start_long, used_holds, used_fits}
use Rattle.cdc_pass.proofs.pass.run_from.Goals as goal

pub stages_from-requires-clause-cuts : goal.stages_from-requires-clause-cuts
stages_from-requires-clause-cuts g c =
    let points : c.in-Ok.points ≡ (opened_start c.args.nodes.now.items c.args.opened).points = c.in-Ok.ensures.points ∙ ap (λ (ns : List g.row.S.Denot). (opened_start ns c.args.opened).points) c.deref-2.ensures.value in
    subst (λ (cuts : List RestartPoint). AllByRecursion IsCut cuts) (sym points)
    (start_cuts c.args.nodes.now.items (used_point c.args.opened.start c.args.opened.kept) (used_holds IsPoint c.args.opened.start c.args.opened.kept c.requires.sound))

pub stages_from-requires-clause-bytes : goal.stages_from-requires-clause-bytes
stages_from-requires-clause-bytes g c =
    let points : c.in-Ok.points ≡ (opened_start c.args.nodes.now.items c.args.opened).points = c.in-Ok.ensures.points ∙ ap (λ (ns : List g.row.S.Denot). (opened_start ns c.args.opened).points) c.deref-2.ensures.value in
    subst (λ (cuts : List RestartPoint). AllByRecursion (λ (cut : RestartPoint). cut.place.at < 2 ^ 63) cuts) (sym points)
    (start_small g.S.Source.sizes g.met.S.Source.limit c.args.nodes.now.items (used_point c.args.opened.start c.args.opened.kept) (used_holds IsPoint c.args.opened.start c.args.opened.kept c.requires.sound) c.requires.can)

pub run_stages-requires-clause-stages : goal.run_stages-requires-clause-stages
run_stages-requires-clause-stages g c =
    let points : c.in-Ok.points ≡ (opened_start c.args.nodes.now.items c.args.opened).points = c.in-Ok.ensures.points ∙ ap (λ (ns : List g.row.S.Denot). (opened_start ns c.args.opened).points) c.deref-2.ensures.value in (
      c.in-Ok.points,
      ap (λ (cuts : List RestartPoint). length cuts) points ∙ start_long c.args.nodes.now.items c.args.plan.now.rotation (used_point c.args.opened.start c.args.opened.kept)
          (used_fits (length c.args.nodes.now.items) c.args.plan.now.rotation c.args.opened.start c.args.opened.kept c.requires.fits),
      c.in-Ok-stages_from.ensures,
    )

pub returns-in_default-clause-nodes_later : goal.returns-in_default-clause-nodes_later
returns-in_default-clause-nodes_later g c = none_falls g.S.Source.faults c.args.nodes.now.items

pub returns-in_default-clause-outs_later : goal.returns-in_default-clause-outs_later
returns-in_default-clause-outs_later g c = none_falls g.D.Disk.faults c.args.outs.now.items

pub returns-in_default-stages_from-clause-nodes_later : goal.returns-in_default-stages_from-clause-nodes_later
returns-in_default-stages_from-clause-nodes_later g c = none_falls g.S.Source.faults c.args.nodes.now.items

pub returns-in_default-stages_from-clause-outs_later : goal.returns-in_default-stages_from-clause-outs_later
returns-in_default-stages_from-clause-outs_later g c = none_falls g.D.Disk.faults c.args.outs.now.items
