-- The Front that is found behind a pass that was done.
use Rattle.std.proofs.Common.{◌≡◌, ℕ, List, [], ◌∷◌, ◌++◌, length, take, take_all, ap, ◌∙◌, arith}
use Rattle.std.specs.Prelude.{Option, None, Some, IfSome}
use Rattle.std.specs.List.{AllByRecursion}
use Rattle.cdc_outside.specs.Disk.{Image}
use Rattle.cdc_model.specs.Records.{Transaction}
use Rattle.cdc_model.specs.Output.{layout_of}
use Rattle.cdc_records.specs.declared.front.Front.{Front}
use Rattle.cdc_records.specs.Front.{front_layout}
use Rattle.cdc_dumper.specs.Opening.{IsFound}
use Rattle.cdc_recovery.specs.Laws.{ImageHasOneFront}
use Rattle.cdc_recovery.specs.Outputs.{OutputPlan, KeepsFrom}
use Rattle.cdc_recovery.specs.Growing.{Each}
use Rattle.cdc_drill.specs.Attempts.{TellsAll}

-- where each image that may be left keeps all transactions, the Front of what is seen has them
pub front_has_all : ImageHasOneFront → (plan : OutputPlan) (txns : List Transaction) (leaves : Image → Type 0) (seen : Image) (front : Front) → leaves seen → IsFound seen front
    → Each leaves (KeepsFrom plan txns (length txns)) → TellsAll plan txns front
front_has_all law plan txns leaves seen front may found keeps =
    let kept = (keeps seen may).keeps in
    let reached = (keeps seen may).reached in
    let same : front ≡ kept.front = law seen front kept.front found.has kept.is_front in
    let within = kept.is_kept.within in
    let counted = kept.counted in
    let count : kept.front.count ≡ length txns = omega (arith, reached, within, counted) in
    record {
      counted = ap (λ (f : Front). f.count) same ∙ count;
      layout = ap front_layout same ∙ kept.is_kept.layout ∙ ap (λ (n : ℕ). layout_of plan.rules plan.rotation (take n txns)) count
          ∙ ap (λ (all : List Transaction). layout_of plan.rules plan.rotation all) (take_all (length txns) txns (omega arith));
    }

-- what is so of all is so of the last
pub all_last : {A : Type 0} (P : A → Type 0) (items : List A) (last : A) → AllByRecursion P (items ++ last ∷ []) → P last
all_last P [] last all = all.0
all_last P (item ∷ items) last all = all_last P items last all.1

-- a weaker word of what was found
pub some_weaker : {A : Type 0} (found : Option A) (P Q : A → Type 0) → ((a : A) → P a → Q a) → IfSome found P → IfSome found Q
some_weaker None P Q so is = tt
some_weaker (Some a) P Q so is = so a is
