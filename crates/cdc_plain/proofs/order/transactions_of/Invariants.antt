use Rattle.std.proofs.Common.{◌≡◌, ◌+◌, ◌++◌, drop}
use Rattle.cdc_model.specs.Transaction as transaction
use Rattle.cdc_plain.proofs.order.transactions_of.Given as goal

-- what is left decides the rest
abbrev pub invariant-loop-key : goal.invariant-loop-key
invariant-loop-key l =
    (l.number ≡ l.fn.number + l.key-index)
    × (l.txns ++ transaction.transactions_of l.branches l.number (drop l.key-index l.keys) ≡ transaction.transactions_of l.branches l.fn.number l.keys)
