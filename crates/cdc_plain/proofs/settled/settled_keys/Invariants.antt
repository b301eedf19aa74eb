use Rattle.std.proofs.Common.{◌≡◌, take}
use Rattle.std.specs.List.{AllByRecursion}
use Rattle.cdc_model.specs.Kept.{IsKeptKey}
use Rattle.cdc_model.specs.Transaction as transaction
use Rattle.cdc_plain.proofs.settled.settled_keys.Given as goal

abbrev pub invariant-loop-branch : goal.invariant-loop-branch
invariant-loop-branch l =
    (l.keys ≡ transaction.settled_keys l.mark (take l.branch-index l.branches)) × AllByRecursion IsKeptKey l.keys
