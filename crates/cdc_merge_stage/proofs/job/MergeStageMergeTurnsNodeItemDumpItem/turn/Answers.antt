use Rattle.cdc_merge_stage.proofs.Jobs.{passes, says}
use Rattle.cdc_merge_stage.proofs.job.MergeStageMergeTurnsNodeItemDumpItem.turn.Goals as goal

pub returns-clause-passes : goal.returns-clause-passes
returns-clause-passes g c =
    let t = c.turn.ensures in
    passes c.args.self.now c.turn.new.self c.args.ins.now c.turn.new.ins c.args.outs.now c.turn.new.outs t.0 t.1 c.turn.result t.2 t.3 t.4

pub returns-clause-says : goal.returns-clause-says
returns-clause-says g c =
    let t = c.turn.ensures in
    says c.args.self.now c.turn.new.self c.args.ins.now c.turn.new.ins c.args.outs.now c.turn.new.outs t.0 t.1 c.turn.result t.2 t.3 c.turn.auto.outs t.4.says
