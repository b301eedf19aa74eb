use Rattle.std.proofs.Common.{◌∙◌, ap, false, length}
use Rattle.std.proofs.lemmas.List.{length-map}
use Rattle.cdc_merge_stage.specs.Making.{MakerState}
use Rattle.cdc_merge_stage.proofs.Jobs.{next_merge}
use Rattle.cdc_merge_stage.proofs.job.MergeStageMergeTurnsNodeItemDumpItem.again.Goals as goal

pub returns-clause-next : goal.returns-clause-next
returns-clause-next g c =
    let e = c.again.ensures in
    next_merge c.args.self.now c.again.new.self e.maker.0 e.maker.1 e.maker.2 e.took e.slots.0 e.slots.1 e.end c.requires

pub returns-clause-turned : goal.returns-clause-turned
returns-clause-turned g c =
    let e = c.again.ensures in
    record {
      start = e.maker.1;
      rules = ap (λ (m : MakerState). m.rules) e.maker.0;
      rotation = ap (λ (m : MakerState). m.rotation) e.maker.0;
      nodes = ap length e.took ∙ length-map c.args.self.now.took (λ _. false);
      outs = ap length e.slots.0;
    }
