use Rattle.std.proofs.Common.{◌≡◌, ◌++◌, map, take}
use Rattle.cdc_sorter.proofs.sweep.push_recent.Given as goal

-- the numbers so far are there
abbrev pub invariant-loop-branch : goal.invariant-loop-branch
invariant-loop-branch l = l.numbers.items ≡ l.initial.numbers.items ++ map (λ r. r.stand.entry) (take l.branch-index l.recent)
