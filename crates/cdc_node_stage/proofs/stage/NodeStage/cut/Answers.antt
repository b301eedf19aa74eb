use Rattle.cdc_node_stage.specs.Sending.{node_state, reading_of}
use Rattle.cdc_node_stage.proofs.stage.NodeStage.cut.Goals as goal

pub returns : goal.returns
returns c = λ tells files window items sent start least. c.cut.ensures tells files (reading_of (node_state c.args.self.now)) sent.taken _ sent.reads start least
