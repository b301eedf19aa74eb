use Rattle.std.proofs.Common.{◌<◌, [], ◌∷◌, length, get_or, refl, subst, arith}
use Rattle.cdc_item.specs.declared.node_item.NodeItem.{NodeItem}
use Rattle.cdc_item.specs.declared.node_item.NodeItem.TheVariants.{Branch, Bound, End as NodeEnd}
use Rattle.cdc_merge_stage.proofs.Places.{turned_still, here_set}
use Rattle.cdc_turns.proofs.Turnings.{turned_one}
use Rattle.cdc_merge_stage.proofs.stage.MergeStage.take.Goals as goal

pub returns-in-None : goal.returns-in-None
returns-in-None g c =
    let within : c.args.node < length c.args.ins.now = (let lanes = c.requires.lanes in let below = c.requires.within in omega (arith, lanes, below)) in
    record {
      takes = (
        refl,
        turned_still g.I.LaneOut.moved g.met.I.LaneOut.starts c.args.ins.now c.args.node c.pop.new.self c.index-ins-node.result c.in-None.ensures.moved,
        here_set g.I.LaneOut.empty c.args.ins.now c.args.node c.pop.new.self within c.in-None.ensures.empty,
      );
    }

pub returns-in-Some-Branch : goal.returns-in-Some-Branch
returns-in-Some-Branch g c = record {
  takes = (
    Branch c.in-Some-Branch.branch,
    c.accept_branch.ensures,
    turned_one g.I.LaneOut.moved g.met.I.LaneOut.starts c.args.ins.now c.args.node (Branch c.in-Some-Branch.branch ∷ []) c.pop.new.self c.index-ins-node.result
        (subst (λ (item : NodeItem). g.I.LaneOut.moved (get_or c.args.ins.now c.args.node c.index-ins-node.result) (item ∷ []) c.pop.new.self) c.in-Some-Branch.field-0-is c.in-Some-Branch.ensures.moved),
  );
}

pub returns-in-Some-Bound : goal.returns-in-Some-Bound
returns-in-Some-Bound g c = record {
  takes = (
    Bound c.in-Some-Bound.bound,
    c.accept_bound.ensures,
    turned_one g.I.LaneOut.moved g.met.I.LaneOut.starts c.args.ins.now c.args.node (Bound c.in-Some-Bound.bound ∷ []) c.pop.new.self c.index-ins-node.result
        (subst (λ (item : NodeItem). g.I.LaneOut.moved (get_or c.args.ins.now c.args.node c.index-ins-node.result) (item ∷ []) c.pop.new.self) c.in-Some-Bound.field-0-is c.in-Some-Bound.ensures.moved),
  );
}

pub returns-in-Some-End : goal.returns-in-Some-End
returns-in-Some-End g c = record {
  takes = (
    NodeEnd,
    c.accept_end.ensures,
    turned_one g.I.LaneOut.moved g.met.I.LaneOut.starts c.args.ins.now c.args.node (NodeEnd ∷ []) c.pop.new.self c.index-ins-node.result
        (subst (λ (item : NodeItem). g.I.LaneOut.moved (get_or c.args.ins.now c.args.node c.index-ins-node.result) (item ∷ []) c.pop.new.self) c.in-Some-End.field-0-is c.in-Some-End.ensures.moved),
  );
}
