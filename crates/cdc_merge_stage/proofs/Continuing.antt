-- Units behind the layout of the first transactions.
use Rattle.std.proofs.Common.{◌≡◌, ℕ, zero, suc, List, [], ◌∷◌, ◌++◌, length, take, Option, Some, None, sym, ap, refl, ◌∙◌, append-nil, append_assoc}
use Rattle.std.specs.List.{slice_get}
use Rattle.cdc_base.specs.declared.rename.Rename.{Rename}
use Rattle.cdc_model.specs.declared.layout.Layout.{Layout}
use Rattle.cdc_model.specs.Records.{Transaction, OutputUnit}
use Rattle.cdc_model.specs.Unit.{unit_of}
use Rattle.cdc_model.specs.Output.{layout_of}
use Rattle.cdc_model.proofs.Units.{units_make_files}
use Rattle.cdc_merge_stage.specs.Making.{layout_behind, units_behind}
use Rattle.cdc_merge_stage.specs.Settled.{ContinuesOutput, UnitsContinueOutputs}

module _ (rules : List Rename) (rotation : ℕ) where
  abbrev unit_in : Layout → Option Transaction → Option OutputUnit
  unit_in layout None = None
  unit_in layout (Some txn) = Some (unit_of rules rotation txn layout)

  none_more : (first : List Transaction) → ContinuesOutput rules rotation first []
  none_more first = record {
    units = λ index txn is. absurd cc;
    many = refl;
    layout = ap (layout_of rules rotation) (sym (append-nil first));
  }

  one_more : (first more : List Transaction) (txn : Transaction) → ContinuesOutput rules rotation (first ++ txn ∷ []) more → ContinuesOutput rules rotation first (txn ∷ more)
  one_more first more txn rest = record {
    units = units;
    many = ap (λ (l : Layout). suc (length (units_behind rules rotation l more))) next ∙ ap (λ (n : ℕ). suc n) rest.many;
    layout = ap (λ (l : Layout). layout_behind rules rotation l more) next ∙ rest.layout ∙ ap (layout_of rules rotation) (append_assoc first (txn ∷ []) more);
  }
    where
      next : (unit_of rules rotation txn (layout_of rules rotation first)).after ≡ layout_of rules rotation (first ++ txn ∷ [])
      next = sym (units_make_files rules rotation first txn).layout

      units : (index : ℕ) (t : Transaction) → slice_get (txn ∷ more) index ≡ Some t
          → slice_get (units_behind rules rotation (layout_of rules rotation first) (txn ∷ more)) index ≡ Some (unit_of rules rotation t (layout_of rules rotation (first ++ take index (txn ∷ more))))
      units zero t is = ap (unit_in (layout_of rules rotation first)) is ∙ ap (λ (l : List Transaction). Some (unit_of rules rotation t (layout_of rules rotation l))) (sym (append-nil first))
      units (suc index) t is =
          ap (λ (l : Layout). slice_get (units_behind rules rotation l more) index) next ∙ rest.units index t is
          ∙ ap (λ (l : List Transaction). Some (unit_of rules rotation t (layout_of rules rotation l))) (append_assoc first (txn ∷ []) (take index more))

  continues : (first more : List Transaction) → ContinuesOutput rules rotation first more
  continues first [] = none_more first
  continues first (txn ∷ more) = one_more first more txn (continues (first ++ txn ∷ []) more)

pub units_continue_outputs : UnitsContinueOutputs
units_continue_outputs rules rotation first more = continues rules rotation first more
