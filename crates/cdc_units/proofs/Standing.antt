-- What a pass has given, beside the planned transactions.
use Rattle.std.proofs.Common.{◌≡◌, ◌≤◌, ℕ, ◌+◌, ◌^◌, List, [], ◌∷◌, ◌++◌, length, length-append, take, drop, Option, ap, sym, subst, refl, ◌∙◌, arith}
use Rattle.std.proofs.lemmas.List.{length-drop}
use Rattle.std.specs.List.{AllZip}
use Rattle.cdc_base.specs.declared.rename.Rename.{Rename}
use Rattle.cdc_model.specs.declared.node_log.NodeLog.{NodeLog}
use Rattle.cdc_model.specs.Records.{LogEntry, Transaction, OutputUnit}
use Rattle.cdc_model.specs.Output.{layout_of}
use Rattle.cdc_model.specs.Transaction.{settled_transactions, key_at}
use Rattle.cdc_model.specs.SettledOrder.{IsFront}
use Rattle.cdc_model.specs.Feed.{fed_branches, least_bound}
use Rattle.cdc_model.specs.Restart.{RestartPoint}
use Rattle.cdc_model.proofs.Fronts.{front_on}
use Rattle.cdc_recovery.specs.Outputs.{OutputPlan, planned_transactions}
use Rattle.cdc_content.specs.Reading.{logs_read}
use Rattle.cdc_content.specs.Laws.{ReadingsAreFeeds, ReadingsSettleTheNext}
use Rattle.cdc_item.specs.declared.node_item.NodeItem.{NodeItem}
use Rattle.cdc_item.specs.declared.dump_item.DumpItem.{DumpItem}
use Rattle.cdc_item.specs.Item.{units_among}
use Rattle.cdc_merge_stage.specs.declared.start.MergeStart.{MergeStart}
use Rattle.cdc_merge_stage.specs.Making.{units_behind, start_behind}
use Rattle.cdc_merge_stage.specs.Merged.{MergeState, HasGivenUnits, feeds_of, items_in}
use Rattle.cdc_merge_stage.specs.Settled.{UnitsAreSettled}
use Rattle.cdc_units.specs.Given.{PassGave, IsBehindPlanned, HaveGotUnits}
use Rattle.cdc_units.specs.Laws.{GivesPlannedUnits, PassGivesPlannedUnits}
use Rattle.cdc_units.proofs.Units.{are_units, stands_behind, key_behind_is}

units_joined : (front back : List DumpItem) → units_among (front ++ back) ≡ units_among front ++ units_among back
units_joined [] back = refl
units_joined (DumpItem.Unit unit ∷ front) back = ap (λ (list : List OutputUnit). unit ∷ list) (units_joined front back)
units_joined (DumpItem.End ∷ front) back = units_joined front back

module _ (feeds_law : ReadingsAreFeeds) (next_law : ReadingsSettleTheNext) (units_law : UnitsAreSettled)
    (plan : OutputPlan) (nodes : List (List (List ℕ))) (logs : List NodeLog) (points : List RestartPoint) (takens : List (List LogEntry)) (window : ℕ) (s : MergeState) (takes : List (List NodeItem)) (gives : List (List DumpItem))
    (pass : PassGave plan nodes logs points takens window s takes gives) where
  -- the transactions that were given
  abbrev pub has : HasGivenUnits s (feeds_of takes) gives
  has = pass.did.merged pass.kept

  -- are settled ones of what was read
  pub settled : IsFront has.gave (settled_transactions plan.rules s.start.count s.start.last (logs_read points takens))
  settled =
      subst (λ (rules : List Rename). IsFront has.gave (settled_transactions rules s.start.count s.start.last (logs_read points takens))) pass.rules
      (units_law s (logs_read points takens) (feeds_of takes) gives (feeds_law nodes s.start.last points takens (feeds_of takes) pass.reads.read).0 has).first

  -- and so the next planned ones
  pub planned : IsFront has.gave (drop s.start.count (planned_transactions plan logs))
  planned = front_on has.gave (settled_transactions plan.rules s.start.count s.start.last (logs_read points takens)) (drop s.start.count (planned_transactions plan logs))
      settled (next_law plan nodes logs s.start.count s.start.last points takens (feeds_of takes) pass.reads).front

  pub within : s.start.count + length has.gave ≤ length (planned_transactions plan logs)
  within = let start = pass.reads.behind.within in
      omega (arith, start, ap length planned.is, length-append has.gave planned.rest, length-drop s.start.count (planned_transactions plan logs))

  behind_is : s.behind ≡ start_behind plan.rules plan.rotation s.start has.gave
  behind_is =
      has.behind ∙ (ap (λ (rules : List Rename). start_behind rules s.maker.rotation s.start has.gave) pass.rules
      ∙ ap (λ (rotation : ℕ). start_behind plan.rules rotation s.start has.gave) pass.rotation)

  pub count_is : s.behind.count ≡ s.start.count + length has.gave
  count_is = ap (λ (b : MergeStart). b.count) behind_is

  pub stands : IsBehindPlanned plan logs s.behind
  stands =
      let txns : List Transaction = planned_transactions plan logs in
      let count = count_is in
      let inside = within in
      record {
        within = omega (arith, count, inside);
        last = ap (λ (b : MergeStart). b.last) behind_is ∙ (key_behind_is plan logs s.start.count s.start.last has.gave planned.rest pass.reads.behind.key planned.is
            ∙ ap (λ (n : ℕ). key_at txns n) (sym count));
        before = ap (λ (b : MergeStart). b.before) behind_is ∙ (stands_behind plan logs s.start.count s.start.before has.gave planned.rest pass.before planned.is
            ∙ ap (λ (n : ℕ). layout_of plan.rules plan.rotation (take n txns)) (sym count));
      }

  all_units : (slots : List (Option DumpItem)) (lists : List (List DumpItem))
      → AllZip (λ (slot : Option DumpItem) (items : List DumpItem). units_among (items ++ items_in slot) ≡ units_behind s.maker.rules s.maker.rotation s.start.before has.gave) slots lists
      → HaveGotUnits plan logs s.start.count lists
  all_units [] [] are = tt
  all_units [] (items ∷ lists) are = absurd are
  all_units (slot ∷ slots) [] are = absurd are
  all_units (slot ∷ slots) (items ∷ lists) (is, are) =
      let units : units_behind plan.rules plan.rotation s.start.before has.gave ≡ units_among items ++ units_among (items_in slot) =
      sym (ap (λ (rules : List Rename). units_behind rules plan.rotation s.start.before has.gave) pass.rules)
      ∙ (sym (ap (λ (rotation : ℕ). units_behind s.maker.rules rotation s.start.before has.gave) pass.rotation)
      ∙ (sym is ∙ units_joined items (items_in slot))) in
      (are_units plan logs s.start.count s.start.before has.gave planned.rest items (units_among (items_in slot)) pass.before planned.is has.few units, all_units slots lists are)

  pub gives_planned : GivesPlannedUnits plan logs s gives
  gives_planned = record { stands = stands; units = all_units s.slots gives has.outs }

pub pass_gives_planned_units : ReadingsAreFeeds → ReadingsSettleTheNext → UnitsAreSettled → PassGivesPlannedUnits
pass_gives_planned_units feeds_law next_law units_law plan nodes logs points takens window s takes gives pass =
    gives_planned feeds_law next_law units_law plan nodes logs points takens window s takes gives pass
