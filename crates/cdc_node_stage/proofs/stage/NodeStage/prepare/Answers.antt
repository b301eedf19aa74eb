use Rattle.std.proofs.Common.{◌≡◌, ◌∙◌, ◌⊎◌, Option, Some, sym, subst}
use Rattle.cdc_item.specs.declared.node_item.NodeItem.{NodeItem}
use Rattle.cdc_node_stage.specs.Sending.{node_state, with_item, HasSent, IsNodeStanding}
use Rattle.cdc_node_stage.specs.Preparing.{AllWasSent, Prepares}
use Rattle.cdc_node_stage.proofs.Sent.{after}
use Rattle.cdc_node_stage.proofs.Steps.{waited}
use Rattle.cdc_node_stage.proofs.stage.NodeStage.prepare.Goals as goal

pub next_item-requires-clause-stands : goal.next_item-requires-clause-stands
next_item-requires-clause-stands g c =
    subst (λ (o : Option NodeItem). IsNodeStanding g.S.Source.tells (g.S.Source.held c.args.source.now) (after (node_state c.args.self.now) c.args.self.now.reader o c.args.self.now.room))
    (sym c.take.ensures.value ∙ c.in-None.is ∙ sym c.take.ensures.after) c.requires.stands

pub returns-in-Some-clause-prepares : goal.returns-in-Some-clause-prepares
returns-in-Some-clause-prepares g c =
    subst (λ (o : Option NodeItem). Prepares g.S.Source.tells (g.S.Source.held c.args.source.now) (HasSent g.S.Source.tells (g.S.Source.held c.args.source.now) (node_state c.args.self.now)) (node_state c.args.self.now)
    (after (node_state c.args.self.now) c.args.self.now.reader o c.args.self.now.room) (Some c.in-Some.item)) (sym c.take.ensures.value ∙ c.in-Some.is)
    (waited g.S.Source.tells (g.S.Source.held c.args.source.now) (node_state c.args.self.now) c.in-Some.item c.requires.stands c.requires.going)

pub returns-in-None-clause-prepares : goal.returns-in-None-clause-prepares
returns-in-None-clause-prepares g c =
    subst (λ (o : Option NodeItem). Prepares g.S.Source.tells (g.S.Source.held c.args.source.now) (HasSent g.S.Source.tells (g.S.Source.held c.args.source.now) (after (node_state c.args.self.now) c.args.self.now.reader o c.args.self.now.room))
    (after (node_state c.args.self.now) c.args.self.now.reader o c.args.self.now.room) (with_item (node_state c.next_item.new.self) c.next_item.result) c.next_item.result)
    (c.take.ensures.after ∙ sym c.in-None.is ∙ c.take.ensures.value) c.next_item.ensures.prepares

pub returns-in-None-clause-last : goal.returns-in-None-clause-last
returns-in-None-clause-last g c =
    subst (λ (o : Option NodeItem). (c.next_item.new.source ≡ c.args.source.now) ⊎ AllWasSent g.S.Source.tells (g.S.Source.held c.args.source.now) (after (node_state c.args.self.now) c.args.self.now.reader o c.args.self.now.room))
    (c.take.ensures.after ∙ sym c.in-None.is ∙ c.take.ensures.value) c.next_item.ensures.last
