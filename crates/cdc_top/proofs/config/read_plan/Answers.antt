use Rattle.std.proofs.Common.{◌∙◌}
use Rattle.cdc_top.specs.Call.{config_seen}
use Rattle.cdc_top.proofs.Planning.{read_of}
use Rattle.cdc_top.proofs.config.read_plan.Goals as goal

pub returns-clause-read : goal.returns-clause-read
returns-clause-read g c =
    read_of c.plan_in.result (config_seen g.C.Source.tells g.C.Source.held g.C.Source.faults c.args.config.now c.read_whole.new.source) c.bytes.result.now
    (λ told. c.bytes.ensures.value ∙ c.in-Ok.ensures.whole told) c.plan_in.ensures.answer
