-- Which item closes a window.
use Rattle.std.specs.Prelude.{Bool, true, false}
use Rattle.lane_tests.specs.declared.item.Item.{Item}
use Rattle.lane_tests.specs.declared.item.Item.TheVariants.{Number, End}

-- it is the End
abbrev pub is_closing : Item → Bool
is_closing (Number number) = false
is_closing End = true
