use Rattle.cdc_plain.proofs.order.ordered_transactions.Goals as goal

pub transactions_of-requires-clause-kept : goal.transactions_of-requires-clause-kept
transactions_of-requires-clause-kept c = rw c.as_slice-3.ensures c.in_ok-keys.ensures.kept
