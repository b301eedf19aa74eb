use Rattle.std.proofs.Common.{◌≡◌, length}
use Rattle.cdc_prog.proofs.config.over_each.Given as goal

abbrev pub invariant-loop-folder : goal.invariant-loop-folder
invariant-loop-folder g l = length l.disks.items ≡ l.folder-index
