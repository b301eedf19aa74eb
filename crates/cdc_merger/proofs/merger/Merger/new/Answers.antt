use Rattle.std.proofs.Common.{◌≡◌, List, Option, length, refl, ap, sym, subst, ◌∙◌}
use Rattle.cdc_base.specs.declared.key.Key.{Key}
use Rattle.cdc_model.specs.Feed.{NodeFeed}
use Rattle.cdc_merger.specs.Heads.{HasNoHead}
use Rattle.cdc_merger.proofs.Heading.{none_has_one, so_many}
use Rattle.cdc_merger.proofs.Growing.{merges_new, so_many_feeds}
use Rattle.cdc_merger.proofs.merger.Merger.new.Goals as goal

pub invariant_of-result : goal.invariant_of-result
invariant_of-result c =
    let nodes : length c.in_ok-no_nodes.field-0.items ≡ c.args.nodes = ap (λ (list : List NodeFeed). length list) c.in_ok-no_nodes.ensures ∙ so_many_feeds c.args.nodes in
    record {
      many = ap (λ (list : List (Option Key)). length list) c.in_ok-new.ensures ∙ so_many Key c.args.nodes ∙ sym nodes;
      room = ap (λ (list : List (Option Key)). length list) c.in_ok-empty_heads.ensures ∙ so_many Key c.args.nodes ∙ sym nodes;
    }

pub returns-clause-merges : goal.returns-clause-merges
returns-clause-merges c =
    merges_new _ c.args.nodes c.args.count c.args.last.now refl c.in_ok-no_nodes.ensures
    (subst (λ (list : List (Option Key)). HasNoHead list) (sym c.in_ok-new.ensures) (none_has_one Key c.args.nodes))
