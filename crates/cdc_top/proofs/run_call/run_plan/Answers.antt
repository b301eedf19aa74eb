use Rattle.std.proofs.Common.{inr}
use Rattle.cdc_list.proofs.Zips.{later_yet}
use Rattle.cdc_top.specs.Call.{config_seen}
use Rattle.cdc_top.proofs.run_call.run_plan.Goals as goal

pub returns-in-Ok-turns_of-clause-ran : goal.returns-in-Ok-turns_of-clause-ran
returns-in-Ok-turns_of-clause-ran g c = inr (record {
  plan = c.in-Ok.plan;
  is_plan = c.in-Ok.ensures.plan;
  passed = c.pass_over.ensures.passed (config_seen g.C.Source.tells g.C.Source.held g.C.Source.faults c.args.config.now c.read_plan.new.config);
})

pub returns-in-Err-clause-outs_later : goal.returns-in-Err-clause-outs_later
returns-in-Err-clause-outs_later g c = later_yet g.D.Disk.faults c.args.outs.now.items

pub returns-clause-outs_later : goal.returns-clause-outs_later
returns-clause-outs_later g c = later_yet g.D.Disk.faults c.args.outs.now.items
