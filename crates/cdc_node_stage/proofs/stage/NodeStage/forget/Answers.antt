use Rattle.cdc_node_stage.specs.Sending.{node_state, reading_of}
use Rattle.cdc_node_stage.proofs.Begun.{forgets_sent, forgets_stands}
use Rattle.cdc_node_stage.proofs.Sent.{same_reading}
use Rattle.cdc_node_stage.proofs.stage.NodeStage.forget.Goals as goal

pub returns-clause-sent : goal.returns-clause-sent
returns-clause-sent c = λ tells files window items sent.
    forgets_sent tells files (node_state c.args.self.now) c.forget.new.self (c.forget.ensures.reads tells files) c.forget.ensures.end c.forget.ensures.log window items sent

pub returns-clause-standing : goal.returns-clause-standing
returns-clause-standing c = λ tells files stands.
    forgets_stands tells files (node_state c.args.self.now) c.forget.new.self (c.forget.ensures.reads tells files) c.forget.ensures.end c.forget.ensures.log stands

pub returns-clause-goes_by : goal.returns-clause-goes_by
returns-clause-goes_by c = λ tells files stands.
    same_reading tells files (node_state c.args.self.now) c.forget.new.self c.args.self.now.pending c.args.self.now.room stands.taken stands.feed
    (c.forget.ensures.reads tells files (reading_of (node_state c.args.self.now)) stands.taken stands.feed stands.reads)
