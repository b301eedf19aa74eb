use Rattle.std.proofs.Common.{◌≡◌, take, filter}
use Rattle.cdc_model.specs.Transaction as transaction
use Rattle.cdc_plain.proofs.order.branches_of.Given as goal

abbrev pub invariant-loop-branch : goal.invariant-loop-branch
invariant-loop-branch l = l.own ≡ filter (transaction.has_key l.key) (take l.branch-index l.branches)
