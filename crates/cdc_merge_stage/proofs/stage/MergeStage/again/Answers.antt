use Rattle.std.proofs.Common.{◌≡◌, ◌≤◌, ◌∙◌, sym, ap, false, length, arith}
use Rattle.std.proofs.lemmas.List.{length-map}
use Rattle.cdc_merge_stage.proofs.Flags.{never_whole}
use Rattle.cdc_merge_stage.proofs.stage.MergeStage.again.Goals as goal

pub invariant_of-self : goal.invariant_of-self
invariant_of-self g c =
    let took = c.self.inside.took.items in
    let long : length c.reset.new.took.items ≡ length took = ap length c.reset.ensures ∙ length-map took (λ _. false) in
    let few : length took ≤ 256 = c.self.invariant.few in
    record {
      bounded = c.self.invariant.bounded ∙ sym long;
      whole = λ is. absurd (never_whole c.self.inside.end (sym c.reopened-self-inside.ensures ∙ is));
      nodes = long ∙ c.self.invariant.nodes;
      few = omega (arith, long, few);
      all = λ is. absurd cc;
      closed = λ is. absurd cc;
    }
