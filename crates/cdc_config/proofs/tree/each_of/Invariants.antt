use Rattle.std.proofs.Common.{◌≡◌, drop}
use Rattle.toml.specs.View.{items_view}
use Rattle.cdc_config.specs.Tree.{each}
use Rattle.cdc_config.proofs.Items.{behind}
use Rattle.cdc_config.proofs.tree.each_of.Given as goal

-- the parts so far, and what the values left give, are what all give
abbrev pub invariant-loop-value : goal.invariant-loop-value
invariant-loop-value g l = behind l.parts (each g.T.Part.from (items_view (drop l.value-index l.values))) ≡ each g.T.Part.from (items_view l.values)
