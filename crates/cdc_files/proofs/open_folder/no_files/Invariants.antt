use Rattle.std.proofs.Common.{◌≡◌, length}
use Rattle.cdc_files.proofs.open_folder.no_files.Given as goal

-- so many places so far
abbrev pub invariant-loop : goal.invariant-loop
invariant-loop g l = length l.kept.items ≡ l.counter
