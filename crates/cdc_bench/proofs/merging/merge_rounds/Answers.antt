use Rattle.std.proofs.Common.{◌∙◌, ap, length}
use Rattle.cdc_bench.proofs.Feeds.{so_many}
use Rattle.cdc_bench.proofs.merging.merge_rounds.Goals as goal

pub loop-round-init : goal.loop-round-init
loop-round-init g c = ap length c.in_ok-merger.ensures.nodes.0 ∙ so_many c.args.nodes
