-- How many units outputs have got of transactions that were made.
use Rattle.std.proofs.Common.{◌≡◌, ℕ, suc, ◌+◌, true, List, [], ◌∷◌, ◌++◌, append-nil, length, Option, Some, None, refl, sym, ap, ◌∙◌, arith}
use Rattle.std.specs.List.{AllZip, AllByRecursion}
use Rattle.cdc_base.specs.declared.rename.Rename.{Rename}
use Rattle.cdc_model.specs.declared.layout.Layout.{Layout}
use Rattle.cdc_model.specs.Records.{Transaction, OutputUnit}
use Rattle.cdc_model.specs.Unit.{unit_of}
use Rattle.cdc_recovery.specs.Outputs.{OutputPlan}
use Rattle.cdc_item.specs.declared.dump_item.DumpItem.{DumpItem}
use Rattle.cdc_item.specs.declared.dump_item.DumpItem.TheVariants.{Unit as OneUnit, End}
use Rattle.cdc_item.specs.Item.{units_among}
use Rattle.cdc_dump_stage.specs.Standing.{AreUnits, units_in}
use Rattle.cdc_merge_stage.specs.Making.{units_behind}
use Rattle.cdc_merge_stage.specs.Merged.{all_none, items_in}
use Rattle.cdc_windows.specs.Windows.{HasUnits}

-- the units of items are counted
units_counted : (items : List DumpItem) → units_in items ≡ length (units_among items)
units_counted [] = refl
units_counted (OneUnit unit ∷ items) = let rest = units_counted items in omega (arith, rest)
units_counted (End ∷ items) = units_counted items

-- each transaction has one unit
pub units_many : (rules : List Rename) (rotation : ℕ) (before : Layout) (txns : List Transaction) → length (units_behind rules rotation before txns) ≡ length txns
units_many rules rotation before [] = refl
units_many rules rotation before (txn ∷ txns) = ap (λ (n : ℕ). suc n) (units_many rules rotation (unit_of rules rotation txn before).after txns)

-- where nothing waits, each output has got as many units as there are
pub all_counted : (plan : OutputPlan) (txns : List Transaction) (from count : ℕ) (units : List OutputUnit) (slots : List (Option DumpItem)) (gives : List (List DumpItem))
    → from + length units ≡ count → all_none slots ≡ true → AllByRecursion (λ (items : List DumpItem). AreUnits plan txns from items) gives
    → AllZip (λ (slot : Option DumpItem) (items : List DumpItem). units_among (items ++ items_in slot) ≡ units) slots gives
    → AllByRecursion (HasUnits plan txns from count) gives
all_counted plan txns from count units [] [] many none are same = tt
all_counted plan txns from count units (None ∷ slots) (items ∷ gives) many none (is, are) (alike, same) =
    let here : units_among items ≡ units = ap units_among (sym (append-nil items)) ∙ alike in
    let so_many : units_in items ≡ length units = units_counted items ∙ ap length here in (
      record { units = is; many = omega (arith, so_many, many) },
      all_counted plan txns from count units slots gives many none are same,
    )
all_counted plan txns from count units (Some item ∷ slots) gives many none are same = absurd cc
all_counted plan txns from count units [] (items ∷ gives) many none are same = absurd same
all_counted plan txns from count units (slot ∷ slots) [] many none are same = absurd same
