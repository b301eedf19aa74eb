use Rattle.std.proofs.Common.{List, Option, subst}
use Rattle.cdc_merger.specs.Heads.{HasNoHead, HasHead, LeadsWith}
use Rattle.cdc_merger.proofs.Playing.{least_none, least_some, leader_has}
use Rattle.cdc_merger.proofs.tournament.Tournament.leading.Goals as goal

pub returns-in-None-clause-none : goal.returns-in-None-clause-none
returns-in-None-clause-none g c =
    subst (λ (heads : List (Option g.row.K.Denot)). HasNoHead heads) c.self.view_is
    (least_none g.K.Ranked.order g.met.K.Ranked.total c.self.inside.heads.items c.self.inside.bracket c.leader-node.result c.index.result.now c.self.invariant
    c.leader-node.ensures.leads c.index.ensures c.in-None.is)

pub returns-in-Some-clause-some : goal.returns-in-Some-clause-some
returns-in-Some-clause-some g c =
    subst (λ (heads : List (Option g.row.K.Denot)). LeadsWith g.K.Ranked.order heads c.leader-node.result c.in-Some.head) c.self.view_is
    (least_some g.K.Ranked.order g.met.K.Ranked.total c.self.inside.heads.items c.self.inside.bracket c.leader-node.result c.index.result.now c.in-Some.head c.self.invariant
    c.leader-node.ensures.leads c.index.ensures c.in-Some.is)

pub returns-in-Some-clause-has : goal.returns-in-Some-clause-has
returns-in-Some-clause-has g c =
    subst (λ (heads : List (Option g.row.K.Denot)). HasHead heads) c.self.view_is
    (leader_has g.K.Ranked.order c.self.inside.heads.items c.leader-node.result c.in-Some.head
    (least_some g.K.Ranked.order g.met.K.Ranked.total c.self.inside.heads.items c.self.inside.bracket c.leader-node.result c.index.result.now c.in-Some.head c.self.invariant
    c.leader-node.ensures.leads c.index.ensures c.in-Some.is))
