-- What nodes have read and given in a pass, each from a restart point of its log on.
use Rattle.std.specs.Prelude.{◌≡◌, ◌≤◌, ℕ, ◌+◌, List, [], ◌∷◌, length, reverse, Option}
use Rattle.cdc_base.specs.declared.key.Key.{Key}
use Rattle.cdc_base.specs.declared.place.Place.{Place}
use Rattle.cdc_model.specs.declared.fault.NodeFault.{NodeFault}
use Rattle.cdc_model.specs.declared.node_log.NodeLog.{NodeLog}
use Rattle.cdc_model.specs.Records.{LogEntry}
use Rattle.cdc_model.specs.Soundness.{AllSound}
use Rattle.cdc_model.specs.Feed.{NodeFeed}
use Rattle.cdc_model.specs.NodeReading.{FeedsBehind, low_behind}
use Rattle.cdc_model.specs.Transaction.{key_at}
use Rattle.cdc_model.specs.Restart.{RestartPoint, start_at, IsLatestPoint, AreRestartPoints}
use Rattle.cdc_reader.specs.LogFront.{IsReadAs, AreFirstSound}
use Rattle.cdc_recovery.specs.Outputs.{OutputPlan, planned_transactions}

-- of a log's sound entries behind a restart point these, the oldest first, were taken, and this was given of them
pub record HasReadFrom (files : List (List ℕ)) (last : Key) (point : RestartPoint) (node : ℕ) (taken : List LogEntry) (feed : NodeFeed) : Type 0 where
  pub sound : AllSound (start_at point) taken
  pub first : AreFirstSound point files taken
  pub feeds : FeedsBehind last (start_at point) node (reverse taken) feed

-- so it is of each node, of which the first has this number
abbrev pub HaveReadFrom : ℕ → List (List (List ℕ)) → Key → List RestartPoint → List (List LogEntry) → List NodeFeed → Type 0
HaveReadFrom node [] last [] [] [] = Unit {0}
HaveReadFrom node (files ∷ nodes) last (point ∷ points) (taken ∷ takens) (feed ∷ feeds) =
    HasReadFrom files last point node taken feed × HaveReadFrom (node + 1) nodes last points takens feeds
HaveReadFrom node nodes last points takens feeds = ⊥

-- they are all of them, up to the log's end or its fault, and its low-water mark was told
pub record HasReadAll (files : List (List ℕ)) (point : RestartPoint) (taken : List LogEntry) (feed : NodeFeed) : Type 0 where
  pub fault : Option (Place × NodeFault)
  pub read : IsReadAs point files taken fault
  pub bound : feed.bound ≡ low_behind (start_at point) (reverse taken)

-- so it is of each node
abbrev pub HaveReadAll : List (List (List ℕ)) → List RestartPoint → List (List LogEntry) → List NodeFeed → Type 0
HaveReadAll [] [] [] [] = Unit {0}
HaveReadAll (files ∷ nodes) (point ∷ points) (taken ∷ takens) (feed ∷ feeds) =
    HasReadAll files point taken feed × HaveReadAll nodes points takens feeds
HaveReadAll nodes points takens feeds = ⊥

-- behind the first so many settled transactions of whole logs, with the key of the last of them, these are restart points for it
pub record GoesOnBehind (plan : OutputPlan) (logs : List NodeLog) (count : ℕ) (last : Key) (points : List RestartPoint) : Type 0 where
  pub within : count ≤ length (planned_transactions plan logs)
  pub key : last ≡ key_at (planned_transactions plan logs) count
  pub restart : AreRestartPoints last logs points

-- what was read, as logs: each from its point on
abbrev pub logs_read : List RestartPoint → List (List LogEntry) → List NodeLog
logs_read [] takens = []
logs_read (point ∷ points) [] = []
logs_read (point ∷ points) (taken ∷ takens) = record { start = start_at point; entries = taken } ∷ logs_read points takens

-- the latest restart points for a key of what was read, of nodes of which the first has this number
abbrev pub AreLatestOfRead : ℕ → Key → List RestartPoint → List (List LogEntry) → List RestartPoint → Type 0
AreLatestOfRead node key [] [] [] = Unit {0}
AreLatestOfRead node key (point ∷ points) (taken ∷ takens) (later ∷ laters) =
    IsLatestPoint key point node taken later × AreLatestOfRead (node + 1) key points takens laters
AreLatestOfRead node key points takens laters = ⊥
