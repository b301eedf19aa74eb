use Rattle.std.proofs.Common.{refl}
use Rattle.cdc_base.specs.Key.{first_key}
use Rattle.cdc_model.specs.Restart.{first_point}
use Rattle.cdc_node_stage.proofs.Begun.{begins}
use Rattle.cdc_node_stage.proofs.stage.NodeStage.new.Goals as goal

pub returns : goal.returns
returns c =
    begins _ record { last = first_key; from = first_point; node = c.args.node } c.args.window refl refl c.start_of_log.ensures c.in_ok-reader.ensures.reads refl refl
    c.in_ok-reader.ensures.goes_on c.in_ok-reader.ensures.place c.in_ok-reader.ensures.known
