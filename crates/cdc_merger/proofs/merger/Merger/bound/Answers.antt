use Rattle.std.proofs.Common.{ap}
use Rattle.cdc_merger.specs.Merging.{Merging}
use Rattle.cdc_merger.proofs.Growing.{told_at, merges_told}
use Rattle.cdc_merger.proofs.merger.Merger.bound.Goals as goal

pub returns-clause-told : goal.returns-clause-told
returns-clause-told c = (
  told_at c.self.inside.nodes.items c.args.self.now.nodes c.args.node c.args.bound c.index_mut.result.now c.tell.new.self
      (ap (λ (m : Merging). m.nodes) c.self.view_is) c.requires.first c.requires.within c.index_mut.ensures.value c.tell.ensures,
  ap (λ (m : Merging). m.count) c.self.view_is,
)

pub returns-clause-merges : goal.returns-clause-merges
returns-clause-merges c = λ count last feeds gave m higher.
    merges_told c.args.self.now _ c.args.node c.args.bound
    (told_at c.self.inside.nodes.items c.args.self.now.nodes c.args.node c.args.bound c.index_mut.result.now c.tell.new.self
    (ap (λ (m : Merging). m.nodes) c.self.view_is) c.requires.first c.requires.within c.index_mut.ensures.value c.tell.ensures)
    (ap (λ (m : Merging). m.count) c.self.view_is) (ap (λ (m : Merging). m.heads) c.self.view_is) (ap (λ (m : Merging). m.round) c.self.view_is)
    count last feeds gave m higher
