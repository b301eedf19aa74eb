use Rattle.std.proofs.Common.{◌≡◌}
use Rattle.toml.specs.View.{members_view, table_view}
use Rattle.cdc_config.specs.Tree.{are_keys, keys_of}
use Rattle.cdc_config.proofs.shape.Shape.has_keys.Given as goal

-- what is left decides the answer
abbrev pub invariant-loop-key : goal.invariant-loop-key
invariant-loop-key l = are_keys (keys_of l.self) (members_view l.key-iterator) ≡ are_keys (keys_of l.self) (table_view l.table)
