-- The laws of a pass's content.
use Rattle.std.specs.Prelude.{◌≡◌, ℕ, ◌+◌, Bool, IsTrue, List, length, drop, Some}
use Rattle.std.specs.List.{AllZip}
use Rattle.cdc_base.specs.declared.key.Key.{Key}
use Rattle.cdc_base.specs.Key.{first_key}
use Rattle.cdc_model.specs.declared.node_log.NodeLog.{NodeLog}
use Rattle.cdc_model.specs.Records.{LogEntry, Transaction}
use Rattle.cdc_model.specs.Transaction.{settled_transactions, oversized_transaction, key_at}
use Rattle.cdc_model.specs.SettledOrder.{IsFront}
use Rattle.cdc_model.specs.Feed.{NodeFeed, AreFeedsOf, AreToldOf}
use Rattle.cdc_model.specs.Growth.{IsReadWhole}
use Rattle.cdc_model.specs.Restart.{RestartPoint}
use Rattle.cdc_model.specs.RestartNodes.{AreLatestPoints}
use Rattle.cdc_sorter.specs.Sorting.{SortReading}
use Rattle.cdc_reader.specs.declared.step.NodeEnd.{NodeEnd}
use Rattle.cdc_reader.specs.declared.step.NodeEnd.TheVariants.{Whole, Fault as Faulty}
use Rattle.cdc_reader.specs.Standing.{ReaderState, IsReading, AllGiven}
use Rattle.cdc_recovery.specs.Outputs.{OutputPlan, planned_transactions}
use Rattle.cdc_content.specs.Reading.{HasReadFrom, HaveReadFrom, HasReadAll, HaveReadAll, GoesOnBehind, logs_read, AreLatestOfRead}

-- the log was read to its end or its fault
abbrev pub IsToEnd : NodeEnd → Type 0
IsToEnd Whole = Unit {0}
IsToEnd (Faulty place fault) = Unit {0}
IsToEnd other = ⊥

-- a reading that a reader keeps, as these laws speak of it
pub record StandsAsRead (files : List (List ℕ)) (reader : ReaderState) (reading : SortReading) (taken : List LogEntry) (feed : NodeFeed) : Type 0 where
  pub read : HasReadFrom files reading.last reading.from reading.node taken feed
  pub all : IsToEnd reader.end → AllGiven reading taken feed → HasReadAll files reading.from taken feed

-- law: what a reader keeps of its reading
abbrev pub ReadingsStandSo : Type 0
ReadingsStandSo = (tells : Bool) (files : List (List ℕ)) (reader : ReaderState) (reading : SortReading) (taken : List LogEntry) (feed : NodeFeed)
    → IsTrue tells → IsReading tells files reader reading taken feed → StandsAsRead files reader reading taken feed

-- the premises of these laws: the nodes have these logs, whole; each was read from a restart point on
pub record PassReads (plan : OutputPlan) (nodes : List (List (List ℕ))) (logs : List NodeLog) (count : ℕ) (last : Key) (points : List RestartPoint) (takens : List (List LogEntry)) (feeds : List NodeFeed) : Type 0 where
  pub whole : AllZip IsReadWhole nodes logs
  pub behind : GoesOnBehind plan logs count last points
  pub read : HaveReadFrom 1 nodes last points takens feeds

-- law: what was read and given are feeds of what was read, as logs; and they have told its marks where all was read
abbrev pub ReadingsAreFeeds : Type 0
ReadingsAreFeeds = (nodes : List (List (List ℕ))) (last : Key) (points : List RestartPoint) (takens : List (List LogEntry)) (feeds : List NodeFeed)
    → HaveReadFrom 1 nodes last points takens feeds
    → AreFeedsOf last (logs_read points takens) feeds × (HaveReadAll nodes points takens feeds → AreToldOf (logs_read points takens) feeds)

-- what was read settles the next transactions of the whole logs; and where it has an oversized one, that is the whole logs', and all
-- before it are settled
pub record SettlesTheNext (plan : OutputPlan) (logs : List NodeLog) (count : ℕ) (last : Key) (read : List NodeLog) : Type 0 where
  pub front : IsFront (settled_transactions plan.rules count last read) (drop count (planned_transactions plan logs))
  pub oversized : (txn : Transaction) → oversized_transaction plan.rules count last read ≡ Some txn
      → (oversized_transaction plan.rules 0 first_key logs ≡ Some txn) × (settled_transactions plan.rules count last read ≡ drop count (planned_transactions plan logs))

-- law: whatever was read from restart points on settles the next transactions
abbrev pub ReadingsSettleTheNext : Type 0
ReadingsSettleTheNext = (plan : OutputPlan) (nodes : List (List (List ℕ))) (logs : List NodeLog) (count : ℕ) (last : Key) (points : List RestartPoint) (takens : List (List LogEntry)) (feeds : List NodeFeed)
    → PassReads plan nodes logs count last points takens feeds → SettlesTheNext plan logs count last (logs_read points takens)

-- it settles all of them, and has the whole logs' oversized one, if any
pub record SettlesAll (plan : OutputPlan) (logs : List NodeLog) (count : ℕ) (last : Key) (read : List NodeLog) : Type 0 where
  pub all : settled_transactions plan.rules count last read ≡ drop count (planned_transactions plan logs)
  pub oversized : oversized_transaction plan.rules count last read ≡ oversized_transaction plan.rules 0 first_key logs

-- law: where each log was read to its end or its fault, all are settled
abbrev pub ReadingsOfAllSettleAll : Type 0
ReadingsOfAllSettleAll = (plan : OutputPlan) (nodes : List (List (List ℕ))) (logs : List NodeLog) (count : ℕ) (last : Key) (points : List RestartPoint) (takens : List (List LogEntry)) (feeds : List NodeFeed)
    → PassReads plan nodes logs count last points takens feeds → HaveReadAll nodes points takens feeds → SettlesAll plan logs count last (logs_read points takens)

-- law: the latest restart points of what was read, for the key of the last made transaction, are restart points of the whole logs
abbrev pub PointsBehindAreSound : Type 0
PointsBehindAreSound = (plan : OutputPlan) (nodes : List (List (List ℕ))) (logs : List NodeLog) (count : ℕ) (last : Key) (points : List RestartPoint) (takens : List (List LogEntry)) (feeds : List NodeFeed) (made : List Transaction) (laters : List RestartPoint)
    → PassReads plan nodes logs count last points takens feeds
    → IsFront made (drop count (planned_transactions plan logs))
    → AreLatestOfRead 1 (key_at (planned_transactions plan logs) (count + length made)) points takens laters
    → GoesOnBehind plan logs (count + length made) (key_at (planned_transactions plan logs) (count + length made)) laters

-- law: where all was read, they are the latest ones of the whole logs
abbrev pub PointsOfAllAreLatest : Type 0
PointsOfAllAreLatest = (plan : OutputPlan) (nodes : List (List (List ℕ))) (logs : List NodeLog) (count : ℕ) (last : Key) (points : List RestartPoint) (takens : List (List LogEntry)) (feeds : List NodeFeed) (made : List Transaction) (laters : List RestartPoint)
    → PassReads plan nodes logs count last points takens feeds → HaveReadAll nodes points takens feeds
    → IsFront made (drop count (planned_transactions plan logs))
    → AreLatestOfRead 1 (key_at (planned_transactions plan logs) (count + length made)) points takens laters
    → AreLatestPoints (key_at (planned_transactions plan logs) (count + length made)) logs laters
