-- Units of transactions that follow planned ones are the next planned ones' units.
use Rattle.std.proofs.Common.{◌≡◌, ◌≤◌, ◌<◌, ℕ, zero, suc, ◌+◌, ◌^◌, List, [], ◌∷◌, ◌++◌, length, take, drop, map, Some, ap, sym, subst, ◌∙◌, arith}
use Rattle.std.specs.Prelude.{slice_get}
use Rattle.cdc_base.specs.declared.key.Key.{Key}
use Rattle.cdc_base.specs.Key.{first_key}
use Rattle.cdc_model.specs.declared.layout.Layout.{Layout}
use Rattle.cdc_model.specs.declared.node_log.NodeLog.{NodeLog}
use Rattle.cdc_model.specs.Records.{Transaction, OutputUnit}
use Rattle.cdc_model.specs.Output.{layout_of}
use Rattle.cdc_model.specs.Transaction.{numbers_from, key_or_first, key_at}
use Rattle.cdc_model.specs.Unit.{unit_of}
use Rattle.cdc_model.proofs.OrderCut.{settled_is_exact}
use Rattle.cdc_model.proofs.Units.{units_make_files}
use Rattle.cdc_recovery.specs.Outputs.{OutputPlan, planned_transactions, IsUnitAt}
use Rattle.cdc_recovery.proofs.Files.{take_one_more}
use Rattle.cdc_merger.specs.Merging.{last_key}
use Rattle.cdc_item.specs.declared.dump_item.DumpItem.{DumpItem}
use Rattle.cdc_item.specs.declared.dump_item.DumpItem.TheVariants.{Unit as OneUnit, End}
use Rattle.cdc_item.specs.Item.{units_among}
use Rattle.cdc_dump_stage.specs.Standing.{AreUnits}
use Rattle.cdc_merge_stage.specs.Making.{layout_behind, units_behind}

-- ---- lists

-- the one behind so many, and what follows it
pub record NextOf {X : Type 0} (count : ℕ) (x : X) (rest xs : List X) : Type 0 where
  pub there : slice_get xs count ≡ Some x
  pub behind : drop (count + 1) xs ≡ rest

pub next_of : {X : Type 0} (count : ℕ) (x : X) (rest xs : List X) → drop count xs ≡ x ∷ rest → NextOf count x rest xs
next_of zero x rest [] is = absurd cc
next_of zero x rest (first ∷ xs) is = record { there = ap (λ list. slice_get list zero) is; behind = ap (drop 1) is }
next_of (suc count) x rest [] is = absurd cc
next_of (suc count) x rest (first ∷ xs) is =
    let later = next_of count x rest xs is in
    let one : suc (count + 1) ≡ suc count + 1 = omega arith in
    record { there = later.there; behind = subst (λ n. drop n (first ∷ xs) ≡ rest) one later.behind }

-- the number at its place
nth_number : (first count : ℕ) (txn : Transaction) (txns : List Transaction) → map (λ (t : Transaction). t.number) txns ≡ numbers_from first (length txns)
    → slice_get txns count ≡ Some txn → txn.number ≡ first + count
nth_number first count txn [] numbered there = absurd cc
nth_number first zero txn (head ∷ txns) numbered there =
    let is : head ≡ txn = cc in
    let number : head.number ≡ first = cc in
    sym (ap (λ (t : Transaction). t.number) is) ∙ number ∙ (let e : first ≡ first + zero = omega arith in e)
nth_number first (suc count) txn (head ∷ txns) numbered there =
    let rest : map (λ (t : Transaction). t.number) txns ≡ numbers_from (first + 1) (length txns) = cc in
    nth_number (first + 1) count txn txns rest there ∙ (let e : first + 1 + count ≡ first + suc count = omega arith in e)

-- a planned transaction's number is its place, counted from 1
pub planned_number : (plan : OutputPlan) (logs : List NodeLog) (count : ℕ) (txn : Transaction) → slice_get (planned_transactions plan logs) count ≡ Some txn → txn.number ≡ count + 1
planned_number plan logs count txn there =
    nth_number (0 + 1) count txn (planned_transactions plan logs) (settled_is_exact plan.rules 0 first_key logs).numbered there
    ∙ (let e : 0 + 1 + count ≡ count + 1 = omega arith in e)

-- ---- units

-- behind so many planned transactions, where an output stands so
module _ (plan : OutputPlan) (logs : List NodeLog) where
  abbrev txns : List Transaction
  txns = planned_transactions plan logs

  -- one more
  pub record OneOn (count : ℕ) (before : Layout) (txn : Transaction) (rest : List Transaction) : Type 0 where
    pub unit : IsUnitAt plan txns count (unit_of plan.rules plan.rotation txn before)
    pub behind : drop (count + 1) txns ≡ rest
    pub stands : (unit_of plan.rules plan.rotation txn before).after ≡ layout_of plan.rules plan.rotation (take (count + 1) txns)
    pub there : slice_get txns count ≡ Some txn

  pub one_on : (count : ℕ) (before : Layout) (txn : Transaction) (rest : List Transaction) → before ≡ layout_of plan.rules plan.rotation (take count txns)
      → drop count txns ≡ txn ∷ rest → OneOn count before txn rest
  one_on count before txn rest stands is =
      let next = next_of count txn rest txns is in
      let so_far : List Transaction = take count txns in
      let makes = units_make_files plan.rules plan.rotation so_far txn in
      record {
        unit = record {
          txn = txn;
          there = next.there;
          is = ap (unit_of plan.rules plan.rotation txn) stands;
          number = planned_number plan logs count txn next.there;
        };
        behind = next.behind;
        stands = ap (λ (l : Layout). (unit_of plan.rules plan.rotation txn l).after) stands ∙ (sym makes.layout
            ∙ ap (λ (list : List Transaction). layout_of plan.rules plan.rotation list) (sym (take_one_more txns count txn next.there)));
        there = next.there;
      }

  -- items whose units are the first of transactions' units, which are the next planned ones
  pub are_units : (count : ℕ) (before : Layout) (gave rest : List Transaction) (items : List DumpItem) (left : List OutputUnit)
      → before ≡ layout_of plan.rules plan.rotation (take count txns) → drop count txns ≡ gave ++ rest → (0 < length gave → count + length gave ≤ 2 ^ 62)
      → units_behind plan.rules plan.rotation before gave ≡ units_among items ++ left → AreUnits plan txns count items
  are_units count before gave rest [] left stands is few units = tt
  are_units count before gave rest (End ∷ items) left stands is few units = are_units count before gave rest items left stands is few units
  are_units count before [] rest (OneUnit unit ∷ items) left stands is few units = absurd cc
  are_units count before (txn ∷ gave) rest (OneUnit unit ∷ items) left stands is few units =
      let one = one_on count before txn (gave ++ rest) stands is in
      let same : unit_of plan.rules plan.rotation txn before ≡ unit = cc in
      let later : units_behind plan.rules plan.rotation (unit_of plan.rules plan.rotation txn before).after gave ≡ units_among items ++ left = cc in
      let number : unit.number ≡ count + 1 = ap (λ (u : OutputUnit). u.number) (sym same) ∙ one.unit.number in
      let most : count + length (txn ∷ gave) ≤ 2 ^ 62 = few (omega arith) in (
        subst (IsUnitAt plan txns count) same one.unit,
        omega (arith, number, most),
        are_units (count + 1) (unit_of plan.rules plan.rotation txn before).after gave rest items left one.stands one.behind (λ some. omega (arith, most)) later,
      )

  -- where an output stands behind transactions that are the next planned ones
  pub stands_behind : (count : ℕ) (before : Layout) (gave rest : List Transaction) → before ≡ layout_of plan.rules plan.rotation (take count txns) → drop count txns ≡ gave ++ rest
      → layout_behind plan.rules plan.rotation before gave ≡ layout_of plan.rules plan.rotation (take (count + length gave) txns)
  stands_behind count before [] rest stands is = stands ∙ ap (λ (n : ℕ). layout_of plan.rules plan.rotation (take n txns)) (let e : count ≡ count + 0 = omega arith in e)
  stands_behind count before (txn ∷ gave) rest stands is =
      let one = one_on count before txn (gave ++ rest) stands is in
      stands_behind (count + 1) (unit_of plan.rules plan.rotation txn before).after gave rest one.stands one.behind
      ∙ ap (λ (n : ℕ). layout_of plan.rules plan.rotation (take n txns)) (let e : count + 1 + length gave ≡ count + length (txn ∷ gave) = omega arith in e)

  -- and their last key
  pub key_behind_is : (count : ℕ) (last : Key) (gave rest : List Transaction) → last ≡ key_at txns count → drop count txns ≡ gave ++ rest
      → last_key last gave ≡ key_at txns (count + length gave)
  key_behind_is count last [] rest key is = key ∙ ap (key_at txns) (let e : count ≡ count + 0 = omega arith in e)
  key_behind_is count last (txn ∷ gave) rest key is =
      let next = next_of count txn (gave ++ rest) txns is in
      let here : key_at txns (suc count) ≡ txn.key = ap key_or_first next.there in
      let one : suc count ≡ count + 1 = omega arith in
      key_behind_is (count + 1) txn.key gave rest (sym here ∙ ap (key_at txns) one) next.behind
      ∙ ap (key_at txns) (let e : count + 1 + length gave ≡ count + length (txn ∷ gave) = omega arith in e)
