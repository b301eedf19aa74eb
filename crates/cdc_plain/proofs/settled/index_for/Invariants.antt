use Rattle.std.proofs.Common.{◌≡◌, ◌++◌, take, drop}
use Rattle.cdc_model.specs.Transaction as transaction
use Rattle.cdc_plain.proofs.settled.index_for.Given as goal

-- the keys so far stay in front
abbrev pub invariant-loop-index : goal.invariant-loop-index
invariant-loop-index l =
    take l.index l.keys ++ transaction.put l.key (drop l.index l.keys) ≡ transaction.put l.key l.keys
