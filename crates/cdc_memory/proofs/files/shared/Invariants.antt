use Rattle.std.proofs.Common.{◌≡◌, take}
use Rattle.cdc_memory.proofs.files.shared.Given as goal

abbrev pub invariant-loop-file : goal.invariant-loop-file
invariant-loop-file l = l.held.items ≡ take l.file-index l.files
