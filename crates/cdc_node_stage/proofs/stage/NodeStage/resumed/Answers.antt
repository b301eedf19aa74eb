use Rattle.std.proofs.Common.{refl}
use Rattle.cdc_node_stage.proofs.Begun.{begins}
use Rattle.cdc_node_stage.proofs.stage.NodeStage.resumed.Goals as goal

pub returns : goal.returns
returns c =
    begins _ record { last = c.args.last.now; from = c.args.cut; node = c.args.node } c.args.window refl refl refl c.in_ok-reader.ensures.reads refl refl
    c.in_ok-reader.ensures.goes_on c.in_ok-reader.ensures.place c.in_ok-reader.ensures.known
