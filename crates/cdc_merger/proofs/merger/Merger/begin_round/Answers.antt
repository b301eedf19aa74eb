use Rattle.cdc_merger.proofs.Growing.{begun_unchanged}
use Rattle.cdc_merger.proofs.merger.Merger.begin_round.Goals as goal

pub returns-else-is_some-clause-none : goal.returns-else-is_some-clause-none
returns-else-is_some-clause-none g c = λ empty.
    begun_unchanged c.enter_heads-bound.new.self c.args.self.now c.enter_heads-bound.ensures.nodes.0 c.enter_heads-bound.ensures.nodes.1 c.enter_heads-bound.ensures.nodes.2
    c.enter_heads-bound.ensures.many c.requires empty
