-- Nothing but the window changes.
use Rattle.std.proofs.Common.{subst}
use Rattle.cdc_node_stage.specs.Job.{source_words, SourcedStage, sourced, HasTurned}
use Rattle.cdc_node_stage.proofs.Jobs.{reopens}
use Rattle.cdc_node_stage.proofs.job.NodeJobNodeTurnsNodeItem.again.Goals as goal

pub returns-clause-turned : goal.returns-clause-turned
returns-clause-turned g c =
    subst (λ (job : SourcedStage g.row.S.Denot). HasTurned (source_words g.S.Source.tells g.S.Source.held g.S.Source.sizes g.S.Source.lowest g.S.Source.faults) job (sourced c.again.new.self c.self.inside.source)) c.self.view_is
    (reopens (source_words g.S.Source.tells g.S.Source.held g.S.Source.sizes g.S.Source.lowest g.S.Source.faults) c.self.inside.stage c.again.new.self c.self.inside.source c.again.ensures.state)
