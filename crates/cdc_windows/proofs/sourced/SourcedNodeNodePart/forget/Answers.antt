-- It has forgotten up to the key that was given, or was given a lesser one.
use Rattle.std.proofs.Common.{subst, sym}
use Rattle.cdc_model.specs.Restart.{IsAtMost}
use Rattle.cdc_node_stage.specs.Job.{SourcedStage}
use Rattle.cdc_windows.proofs.Forgetting.{known_up_to}
use Rattle.cdc_windows.proofs.sourced.SourcedNodeNodePart.forget.Goals as goal

pub returns-then-is_gt-clause-known : goal.returns-then-is_gt-clause-known
returns-then-is_gt-clause-known g c = λ low.
    known_up_to c.self.inside.job.stage.reader.sorter.trail.known c.args.last.now c.forget.new.self.stage.reader.sorter.trail.known c.forget.ensures.known
    (subst (λ (job : SourcedStage g.row.S.Denot). IsAtMost job.stage.reader.sorter.trail.known c.args.last.now) (sym c.self.view_is) low)
