use Rattle.std.proofs.Common.{ap}
use Rattle.std.specs.Prelude.{Err}
use Rattle.cdc_config.specs.declared.command.Refusal.{Refusal}
use Rattle.cdc_config.specs.declared.plan.Plan.{Plan}
use Rattle.cdc_top.proofs.Planning.{refused_in}
use Rattle.cdc_top.proofs.config.plan_in.Goals as goal

pub returns-in-Err : goal.returns-in-Err
returns-in-Err c = record {
  answer = refused_in Plan c.in-Err.refusal c.stop_of.result c.args.text.now c.stop_of.ensures (λ key is. c.in-Err.ensures.refused key (ap (λ (r : Refusal). Err r) is));
  plan = tt;
}

pub stop_of-requires : goal.stop_of-requires
stop_of-requires c = λ is. c.in-Err.ensures.no_usage (ap (λ (r : Refusal). Err r) is)
