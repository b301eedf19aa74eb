use Rattle.std.proofs.Common.{◌≡◌, subst}
use Rattle.cdc_node_stage.specs.Sending.{node_state, reading_of}
use Rattle.cdc_node_stage.specs.Job.{SourcedStage}
use Rattle.cdc_node_stage.proofs.job.NodeJob.forget.Goals as goal

pub returns-clause-goes_by : goal.returns-clause-goes_by
returns-clause-goes_by g c =
    subst (λ (job : SourcedStage g.row.S.Denot). reading_of (node_state c.forget.new.self) ≡ reading_of (node_state job.stage)) c.self.view_is
    (c.forget.ensures.goes_by g.S.Source.tells (g.S.Source.held c.self.inside.source) c.self.invariant)
