use Rattle.std.proofs.Common.{ap}
use Rattle.std.proofs.lemmas.Result.{on_ok_weaker}
use Rattle.cdc_merger.specs.Merging.{Merging}
use Rattle.cdc_merger.proofs.Growing.{given_at, merges_given}
use Rattle.cdc_merger.proofs.merger.Merger.give.Goals as goal

pub returns-clause-waits : goal.returns-clause-waits
returns-clause-waits c =
    on_ok_weaker c.give.result
    (λ made. (
      given_at c.self.inside.nodes.items c.args.self.now.nodes c.args.node c.args.branch c.index_mut.result.now c.give.new.self
          (ap (λ (m : Merging). m.nodes) c.self.view_is) c.requires.first c.requires.within c.index_mut.ensures.value made,
      ap (λ (m : Merging). m.count) c.self.view_is,
    ))
    c.give.ensures.ok

pub returns-clause-given : goal.returns-clause-given
returns-clause-given c =
    on_ok_weaker c.give.result
    (λ made count last feeds gave m g.
    merges_given c.args.self.now _ c.args.node c.args.branch
    (given_at c.self.inside.nodes.items c.args.self.now.nodes c.args.node c.args.branch c.index_mut.result.now c.give.new.self
    (ap (λ (m : Merging). m.nodes) c.self.view_is) c.requires.first c.requires.within c.index_mut.ensures.value made)
    (ap (λ (m : Merging). m.count) c.self.view_is) (ap (λ (m : Merging). m.heads) c.self.view_is) (ap (λ (m : Merging). m.round) c.self.view_is)
    count last feeds gave m g)
    c.give.ensures.ok
