use Rattle.std.proofs.Common.{◌≡◌, ◌+◌, ◌++◌, drop}
use Rattle.std.specs.List.{flat_map, enumerate_from}
use Rattle.cdc_model.specs.Transaction as transaction
use Rattle.cdc_plain.proofs.order.all_branches.Given as goal

-- what is left decides the rest
abbrev pub invariant-loop-log : goal.invariant-loop-log
invariant-loop-log l =
    (l.node ≡ l.log-index + 1)
    × (l.branches ++ flat_map (transaction.node_branches l.last) (enumerate_from l.node (drop l.log-index l.logs)) ≡ transaction.all_branches l.last l.logs)
