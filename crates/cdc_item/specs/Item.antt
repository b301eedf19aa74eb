-- Which items are Ends, and what the others carry.
use Rattle.std.specs.Prelude.{ℕ, Bool, true, false, List, [], ◌∷◌}
use Rattle.cdc_model.specs.Records.{OutputUnit}
use Rattle.cdc_item.specs.declared.node_item.NodeItem.{NodeItem}
use Rattle.cdc_item.specs.declared.node_item.NodeItem.TheVariants.{Branch, Bound, End as NodeEnd}
use Rattle.cdc_item.specs.declared.dump_item.DumpItem.{DumpItem}
use Rattle.cdc_item.specs.declared.dump_item.DumpItem.TheVariants.{Unit as OneUnit, End}

-- an item of a node's lane is an End
abbrev pub closes_node_window : NodeItem → Bool
closes_node_window (Branch branch) = false
closes_node_window (Bound bound) = false
closes_node_window NodeEnd = true

-- an item of an out's lane is an End
abbrev pub closes_dump_window : DumpItem → Bool
closes_dump_window (OneUnit unit) = false
closes_dump_window End = true

-- the units among items
abbrev pub units_among : List DumpItem → List OutputUnit
units_among [] = []
units_among (OneUnit unit ∷ items) = unit ∷ units_among items
units_among (End ∷ items) = units_among items
