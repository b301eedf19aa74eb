-- The stage's turn over the job's source.
use Rattle.std.proofs.Common.{subst}
use Rattle.cdc_node_stage.specs.Job.{source_words, SourcedStage, sourced, node_account}
use Rattle.cdc_turns.specs.Turns.{Sends, NodeSays}
use Rattle.cdc_node_stage.proofs.Jobs.{sends, says, stands_behind}
use Rattle.cdc_node_stage.proofs.job.NodeJobNodeTurnsNodeItem.turn.Goals as goal

pub returns-clause-sends : goal.returns-clause-sends
returns-clause-sends g c =
    let sent = c.turn.ensures.sent in
    subst (λ (job : SourcedStage g.row.S.Denot). Sends (node_account (source_words g.S.Source.tells g.S.Source.held g.S.Source.sizes g.S.Source.lowest g.S.Source.faults)) job (sourced c.turn.new.self c.turn.new.source) c.args.lane.now c.turn.new.lane c.turn.result) c.self.view_is
    (sends (source_words g.S.Source.tells g.S.Source.held g.S.Source.sizes g.S.Source.lowest g.S.Source.faults) (sourced c.self.inside.stage c.self.inside.source) (sourced c.turn.new.self c.turn.new.source) c.args.lane.now c.turn.new.lane sent.0 c.turn.result sent.1 sent.2 c.turn.ensures.asks)

pub returns-clause-says : goal.returns-clause-says
returns-clause-says g c =
    let sent = c.turn.ensures.sent in
    subst (λ (job : SourcedStage g.row.S.Denot). NodeSays (node_account (source_words g.S.Source.tells g.S.Source.held g.S.Source.sizes g.S.Source.lowest g.S.Source.faults)) job (sourced c.turn.new.self c.turn.new.source) c.args.lane.now c.turn.new.lane c.turn.result) c.self.view_is
    (says (source_words g.S.Source.tells g.S.Source.held g.S.Source.sizes g.S.Source.lowest g.S.Source.faults) (sourced c.self.inside.stage c.self.inside.source) (sourced c.turn.new.self c.turn.new.source) c.args.lane.now c.turn.new.lane sent.0 c.turn.result sent.1 sent.2 c.turn.ensures.full)

pub invariant_of-self : goal.invariant_of-self
invariant_of-self g c =
    let sent = c.turn.ensures.sent in
    stands_behind (source_words g.S.Source.tells g.S.Source.held g.S.Source.sizes g.S.Source.lowest g.S.Source.faults) (sourced c.self.inside.stage c.self.inside.source) (sourced c.turn.new.self c.turn.new.source) sent.0 c.turn.result sent.2 c.turn.ensures.asks
