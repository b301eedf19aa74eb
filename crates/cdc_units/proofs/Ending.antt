-- Where a pass has given all, and its checkpoints.
use Rattle.std.proofs.Common.{◌≡◌, ◌≤◌, ◌<◌, ℕ, ◌+◌, ◌^◌, List, length, drop, ap, sym, subst, ◌∙◌, arith}
use Rattle.std.proofs.lemmas.List.{length-drop}
use Rattle.cdc_base.specs.declared.rename.Rename.{Rename}
use Rattle.cdc_base.specs.declared.key.Key.{Key}
use Rattle.cdc_model.specs.declared.node_log.NodeLog.{NodeLog}
use Rattle.cdc_model.specs.Records.{LogEntry, Transaction}
use Rattle.cdc_model.specs.Print.{printed_length}
use Rattle.cdc_model.specs.Transaction.{settled_transactions, oversized_transaction, key_at}
use Rattle.cdc_model.specs.Restart.{RestartPoint}
use Rattle.cdc_model.specs.RestartNodes.{AreLatestPoints}
use Rattle.cdc_recovery.specs.Outputs.{OutputPlan, planned_transactions}
use Rattle.cdc_content.specs.Reading.{logs_read, HaveReadAll, AreLatestOfRead, GoesOnBehind}
use Rattle.cdc_content.specs.Laws.{ReadingsAreFeeds, ReadingsSettleTheNext, ReadingsOfAllSettleAll, PointsBehindAreSound, PointsOfAllAreLatest}
use Rattle.cdc_item.specs.declared.node_item.NodeItem.{NodeItem}
use Rattle.cdc_item.specs.declared.dump_item.DumpItem.{DumpItem}
use Rattle.cdc_merge_stage.specs.Merged.{MergeState, HasGivenUnits, feeds_of}
use Rattle.cdc_merge_stage.specs.Settled.{UnitsAreSettled}
use Rattle.cdc_units.specs.Given.{PassGave}
use Rattle.cdc_units.specs.Laws.{AllReadGivesAll, TooLargeEndsThePass, PassPointsAreSound, PassPointIsTheLast}
use Rattle.cdc_units.proofs.Standing.{planned, stands}

-- so many behind others are all, where those are all behind them
all_behind : (count more : ℕ) (gave txns : List Transaction) → count ≤ length txns → gave ≡ drop count txns → more ≡ count + length gave → more ≡ length txns
all_behind count more gave txns within is many = omega (arith, within, many, ap length is, length-drop count txns)

pub all_read_gives_all : ReadingsAreFeeds → ReadingsOfAllSettleAll → UnitsAreSettled → AllReadGivesAll
all_read_gives_all feeds_law all_law units_law plan nodes logs points takens window s takes gives pass all ended =
    let has : HasGivenUnits s (feeds_of takes) gives = pass.did.merged pass.kept in
    let feeds = feeds_law nodes s.start.last points takens (feeds_of takes) pass.reads.read in
    let whole = (units_law s (logs_read points takens) (feeds_of takes) gives feeds.0 has).whole ended (feeds.1 all) in
    let settles = all_law plan nodes logs s.start.count s.start.last points takens (feeds_of takes) pass.reads all in
    let gave : has.gave ≡ drop s.start.count (planned_transactions plan logs) =
    whole.0 ∙ (ap (λ (rules : List Rename). settled_transactions rules s.start.count s.start.last (logs_read points takens)) pass.rules ∙ settles.all) in (
      all_behind s.start.count s.behind.count has.gave (planned_transactions plan logs) pass.reads.behind.within gave (ap (λ b. b.count) has.behind),
      sym settles.oversized ∙ (sym (ap (λ (rules : List Rename). oversized_transaction rules s.start.count s.start.last (logs_read points takens)) pass.rules) ∙ whole.1),
    )

pub too_large_ends_the_pass : ReadingsAreFeeds → ReadingsSettleTheNext → UnitsAreSettled → TooLargeEndsThePass
too_large_ends_the_pass feeds_law next_law units_law plan nodes logs points takens window s takes gives number bytes pass ended =
    let has : HasGivenUnits s (feeds_of takes) gives = pass.did.merged pass.kept in
    let feeds = feeds_law nodes s.start.last points takens (feeds_of takes) pass.reads.read in
    let stop = (units_law s (logs_read points takens) (feeds_of takes) gives feeds.0 has).too_large number bytes ended in
    let next = next_law plan nodes logs s.start.count s.start.last points takens (feeds_of takes) pass.reads in
    let found = next.oversized stop.txn
    (sym (ap (λ (rules : List Rename). oversized_transaction rules s.start.count s.start.last (logs_read points takens)) pass.rules) ∙ stop.is_first) in
    let gave : has.gave ≡ drop s.start.count (planned_transactions plan logs) =
    stop.all ∙ (ap (λ (rules : List Rename). settled_transactions rules s.start.count s.start.last (logs_read points takens)) pass.rules ∙ found.1) in
    record {
      all = all_behind s.start.count s.behind.count has.gave (planned_transactions plan logs) pass.reads.behind.within gave (ap (λ b. b.count) has.behind);
      txn = stop.txn;
      oversized = found.0;
      is_number = stop.is_number;
      is_length = subst (λ (rules : List Rename). printed_length rules stop.txn < 2 ^ 64 → bytes ≡ printed_length rules stop.txn) pass.rules stop.is_length;
    }

-- ---- checkpoints

module _ (feeds_law : ReadingsAreFeeds) (next_law : ReadingsSettleTheNext) (units_law : UnitsAreSettled)
    (plan : OutputPlan) (nodes : List (List (List ℕ))) (logs : List NodeLog) (points : List RestartPoint) (takens : List (List LogEntry)) (window : ℕ) (s : MergeState) (takes : List (List NodeItem)) (gives : List (List DumpItem))
    (pass : PassGave plan nodes logs points takens window s takes gives) where
  abbrev txns : List Transaction
  txns = planned_transactions plan logs

  abbrev given : HasGivenUnits s (feeds_of takes) gives
  given = pass.did.merged pass.kept

  counted : s.behind.count ≡ s.start.count + length given.gave
  counted = ap (λ b. b.count) given.behind

  -- the points for the last key are those for the key of the last given one
  latest_for : (laters : List RestartPoint) → AreLatestOfRead 1 s.behind.last points takens laters
      → AreLatestOfRead 1 (key_at txns (s.start.count + length given.gave)) points takens laters
  latest_for laters latest =
      subst (λ (key : Key). AreLatestOfRead 1 key points takens laters)
      ((stands feeds_law next_law units_law plan nodes logs points takens window s takes gives pass).last ∙ ap (key_at txns) counted) latest

  pub sound_point : PointsBehindAreSound → (laters : List RestartPoint) → AreLatestOfRead 1 s.behind.last points takens laters
      → GoesOnBehind plan logs s.behind.count s.behind.last laters
  sound_point law laters latest =
      let at = stands feeds_law next_law units_law plan nodes logs points takens window s takes gives pass in
      let goes = law plan nodes logs s.start.count s.start.last points takens (feeds_of takes) given.gave laters pass.reads
      (planned feeds_law next_law units_law plan nodes logs points takens window s takes gives pass) (latest_for laters latest) in
      subst (λ (n : ℕ). GoesOnBehind plan logs n s.behind.last laters) (sym counted)
      (subst (λ (key : Key). GoesOnBehind plan logs (s.start.count + length given.gave) key laters) (sym (at.last ∙ ap (key_at txns) counted)) goes)

  pub last_points : PointsOfAllAreLatest → (laters : List RestartPoint) → HaveReadAll nodes points takens (feeds_of takes) → AreLatestOfRead 1 s.behind.last points takens laters
      → AreLatestPoints s.behind.last logs laters
  last_points law laters all latest =
      let at = stands feeds_law next_law units_law plan nodes logs points takens window s takes gives pass in
      subst (λ (key : Key). AreLatestPoints key logs laters) (sym (at.last ∙ ap (key_at txns) counted))
      (law plan nodes logs s.start.count s.start.last points takens (feeds_of takes) given.gave laters pass.reads all
      (planned feeds_law next_law units_law plan nodes logs points takens window s takes gives pass) (latest_for laters latest))

pub pass_points_are_sound : ReadingsAreFeeds → ReadingsSettleTheNext → UnitsAreSettled → PointsBehindAreSound → PassPointsAreSound
pass_points_are_sound feeds_law next_law units_law law plan nodes logs points takens window s takes gives laters pass latest =
    let at = stands feeds_law next_law units_law plan nodes logs points takens window s takes gives pass in
    let goes = sound_point feeds_law next_law units_law plan nodes logs points takens window s takes gives pass law laters latest in
    record { within = at.within; last = at.last; layout = at.before; points = goes.restart }

pub pass_point_is_the_last : ReadingsAreFeeds → ReadingsSettleTheNext → UnitsAreSettled → PointsBehindAreSound → PointsOfAllAreLatest → PassPointIsTheLast
pass_point_is_the_last feeds_law next_law units_law law last_law plan nodes logs points takens window s takes gives laters pass all many latest = record {
  sound = pass_points_are_sound feeds_law next_law units_law law plan nodes logs points takens window s takes gives laters pass latest;
  all = many;
  latest = last_points feeds_law next_law units_law plan nodes logs points takens window s takes gives pass last_law laters all latest;
}
