use Rattle.std.proofs.Common.{List, Option, ap, subst}
use Rattle.cdc_base.specs.declared.key.Key.{Key}
use Rattle.cdc_merger.specs.Merging.{Merging}
use Rattle.cdc_merger.specs.Heads.{HasNoHead}
use Rattle.cdc_merger.proofs.Counting.{prepared_few}
use Rattle.cdc_merger.proofs.Growing.{merges_begun}
use Rattle.cdc_merger.proofs.merger.Merger.prepare.Goals as goal

pub returns-clause-merges : goal.returns-clause-merges
returns-clause-merges g c = λ count last feeds gave some m.
    merges_begun c.args.self.now c.begin_round.new.self c.begin_round.ensures.nodes.0 c.begin_round.ensures.nodes.1 c.begin_round.ensures.entered
    (c.begin_round.ensures.round some) count last feeds gave m

pub returns-clause-few : goal.returns-clause-few
returns-clause-few g c =
    prepared_few c.args.steps.now c.begin_round.new.steps c.args.self.now.heads c.begin_round.new.self.heads
    (subst (λ (list : List (Option Key)). HasNoHead list) (ap (λ (seen : Merging). seen.heads) c.self.view_is) c.in_default.ensures.none) c.begin_round.ensures.few
