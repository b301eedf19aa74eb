use Rattle.std.proofs.Common.{arith}
use Rattle.cdc_memory.proofs.DiskContents.{all_copied}
use Rattle.cdc_memory.proofs.disk_files.DiskFiles.copy_from.Goals as goal

pub returns-clause-content : goal.returns-clause-content
returns-clause-content c =
    all_copied c.loop-place.self.files.items c.args.other.now.files.items (omega (arith, c.loop-place.invariant.number, c.requires.number))
    (λ k one two lt. c.loop-place.invariant.copied k one two (omega arith))
