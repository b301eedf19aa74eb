use Rattle.std.proofs.Common.{◌∙◌, Option, Some, inr, sym, ap, subst}
use Rattle.cdc_item.specs.declared.node_item.NodeItem.{NodeItem}
use Rattle.cdc_node_stage.specs.Sending.{NodeState, node_state, with_item, HasSent}
use Rattle.cdc_node_stage.specs.Preparing.{HasSentAll, StandsAll, Prepares}
use Rattle.cdc_node_stage.proofs.Sent.{after}
use Rattle.cdc_node_stage.proofs.Steps.{stands_all, prepares_step, prepares_on, all_was_sent}
use Rattle.cdc_node_stage.proofs.stage.NodeStage.next_item.Goals as goal

pub read_on-requires-clause-stands : goal.read_on-requires-clause-stands
read_on-requires-clause-stands g c =
    subst (λ (o : Option NodeItem). StandsAll g.S.Source.tells (g.S.Source.held c.args.source.now) (after (node_state c.args.self.now) c.at_hand.new.self o c.args.self.now.room)) (sym c.requires.free)
    (stands_all g.S.Source.tells (g.S.Source.held c.args.source.now) (node_state c.args.self.now) c.at_hand.new.self c.requires.free c.requires.going c.at_hand.ensures.place c.at_hand.ensures.over
    c.at_hand.ensures.cuts c.at_hand.ensures.known c.requires.stands (c.in-None.ensures.steps g.S.Source.tells (g.S.Source.held c.args.source.now)))

pub returns-in-Some-clause-prepares : goal.returns-in-Some-clause-prepares
returns-in-Some-clause-prepares g c =
    subst (λ (t : NodeState). Prepares g.S.Source.tells (g.S.Source.held c.args.source.now) (HasSent g.S.Source.tells (g.S.Source.held c.args.source.now) (node_state c.args.self.now)) (node_state c.args.self.now) t c.item_next.result) (sym c.item_next.ensures.held)
    (prepares_step g.S.Source.tells (g.S.Source.held c.args.source.now) (node_state c.args.self.now) c.at_hand.new.self c.requires.free c.requires.going c.at_hand.ensures.place c.at_hand.ensures.over
    c.at_hand.ensures.cuts c.at_hand.ensures.known c.in-Some.step c.item_next.result c.is_going-was_going.result c.requires.stands
    (c.in-Some.ensures.steps g.S.Source.tells (g.S.Source.held c.args.source.now))
    (λ count is. c.at_hand.ensures.no_read count (c.in-Some.is ∙ ap Some is))
    (λ bound is same. c.at_hand.ensures.tells bound (c.in-Some.is ∙ ap Some is) same)
    c.is_going-was_going.ensures c.item_next.ensures.none)

pub returns-in-None-clause-prepares : goal.returns-in-None-clause-prepares
returns-in-None-clause-prepares g c =
    prepares_on g.S.Source.tells (g.S.Source.held c.args.source.now) (node_state c.args.self.now) c.at_hand.new.self c.requires.free c.requires.going c.at_hand.ensures.place c.at_hand.ensures.over
    c.at_hand.ensures.cuts c.at_hand.ensures.known (with_item (node_state c.read_on.new.self) c.read_on.result) c.read_on.result c.requires.stands
    (c.in-None.ensures.steps g.S.Source.tells (g.S.Source.held c.args.source.now))
    (subst (λ (o : Option NodeItem). Prepares g.S.Source.tells (g.S.Source.held c.args.source.now) (HasSentAll g.S.Source.tells (g.S.Source.held c.args.source.now) (after (node_state c.args.self.now) c.at_hand.new.self o c.args.self.now.room))
    (after (node_state c.args.self.now) c.at_hand.new.self o c.args.self.now.room) (with_item (node_state c.read_on.new.self) c.read_on.result) c.read_on.result) c.requires.free c.read_on.ensures.prepares)

pub returns-in-None-clause-last : goal.returns-in-None-clause-last
returns-in-None-clause-last g c =
    inr
    (all_was_sent g.S.Source.tells (g.S.Source.held c.args.source.now) (node_state c.args.self.now) c.at_hand.new.self c.requires.free c.requires.going c.at_hand.ensures.place c.at_hand.ensures.over
    c.at_hand.ensures.cuts c.at_hand.ensures.known (c.in-None.ensures.steps g.S.Source.tells (g.S.Source.held c.args.source.now)))
