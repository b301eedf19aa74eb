use Rattle.std.proofs.Common.{◌-◌, length}
use Rattle.cdc_merger.proofs.gather.+gather.Given as goal

abbrev pub decreases-gather : goal.decreases-gather
decreases-gather g l = length l.nodes.now - l.from
