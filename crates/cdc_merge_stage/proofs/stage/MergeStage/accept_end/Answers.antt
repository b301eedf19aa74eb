use Rattle.std.proofs.Common.{◌≤◌, true, length, sym, ◌∙◌, arith}
use Rattle.std.proofs.lemmas.List.{length-set}
use Rattle.cdc_merge_stage.proofs.Flags.{flags_on}
use Rattle.cdc_merge_stage.proofs.stage.MergeStage.accept_end.Goals as goal

pub invariant_of-self : goal.invariant_of-self
invariant_of-self g c =
    let took = c.self.inside.took.items in
    let long = length-set took c.args.node true in
    let few : length took ≤ 256 = c.self.invariant.few in
    record {
      bounded = c.self.invariant.bounded ∙ sym long;
      whole = c.self.invariant.whole;
      nodes = long ∙ c.self.invariant.nodes;
      few = omega (arith, long, few);
      all = λ is. flags_on took c.args.node (c.self.invariant.all is);
      closed = c.self.invariant.closed;
    }
