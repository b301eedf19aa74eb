-- What a node's stage keeps, and what it says of the reading that it sends.
use Rattle.std.specs.Prelude.{◌≡◌, ◌⊎◌, ℕ, Bool, true, IsTrue, List, ◌++◌, Option, Some, None}
use Rattle.cdc_model.specs.Records.{LogEntry}
use Rattle.cdc_model.specs.Feed.{NodeFeed}
use Rattle.cdc_model.specs.NodeReading.{no_feed}
use Rattle.cdc_model.specs.Restart.{RestartPoint}
use Rattle.cdc_sorter.specs.Sorting.{SortReading}
use Rattle.cdc_reader.specs.declared.step.NodeEnd.TheVariants.{Open, Memory as NoMemory}
use Rattle.cdc_reader.specs.Asking.{IsFromOn}
use Rattle.cdc_reader.specs.LogFront.{IsTakenTo}
use Rattle.cdc_reader.specs.Standing.{ReaderState, AllGiven, IsReading}
use Rattle.cdc_turns.specs.Ends.{EndsAs}
use Rattle.cdc_item.specs.declared.node_item.NodeItem.{NodeItem}
use Rattle.cdc_item.specs.declared.node_item.NodeItem.TheVariants.{End}
use Rattle.cdc_item.specs.Item.{closes_node_window}
use Rattle.cdc_node_stage.specs.declared.stage.NodeStage.{NodeStage}
use Rattle.cdc_node_stage.specs.Feeding.{feed_sent, ComeInTime, waiting_item}

-- what a stage keeps: its reader, the point from which the log is read, the item that waits for the lane, how many bytes it may read in
-- a window and how many of them are left, and whether the window's End was sent
pub record NodeState : Type 0 where
  pub reader : ReaderState
  pub from : RestartPoint
  pub pending : Option NodeItem
  pub window : ℕ
  pub room : ℕ
  pub ended : Bool

-- a stage, seen so
abbrev pub node_state : NodeStage → NodeState
node_state stage = record { reader = stage.reader; from = stage.from; pending = stage.pending; window = stage.window; room = stage.room; ended = stage.ended }

-- a stage in whose hands is an item
abbrev pub with_item : NodeState → Option NodeItem → NodeState
with_item s None = s
with_item s (Some item) = record { reader = s.reader; from = s.from; pending = Some item; window = s.window; room = s.room; ended = s.ended }

-- what a stage goes by: the key above which branches are sent, the point from which the log is read, and the node
abbrev pub reading_of : NodeState → SortReading
reading_of s = record { last = s.reader.sorter.last; from = s.from; node = s.reader.sorter.node }

-- the window's End was sent, or waits
abbrev pub IsWindowOver : NodeState → Type 0
IsWindowOver s = (s.ended ≡ true) ⊎ (s.pending ≡ Some End)

-- what stands at a window's End: all that is settled of what was taken was given and the mark was told, unless memory was wanting; and
-- where the reading goes on, the bytes that were read have no more entries
pub record IsWindowGiven (tells : Bool) (files : List (List ℕ)) (s : NodeState) (taken : List LogEntry) (feed : NodeFeed) : Type 0 where
  pub given : (s.reader.end ≡ NoMemory → ⊥) → AllGiven (reading_of s) taken feed
  pub all : s.reader.end ≡ Open → IsTrue tells → IsTakenTo s.from files s.reader.log.follower s.reader.log.place taken

-- in so many windows a stage sent these items: with the item that waits they are what its reader gave and told, of these entries of the
-- log; they came in time; each window is closed by an End, and behind each stands all that was settled
pub record HasSent (tells : Bool) (files : List (List ℕ)) (s : NodeState) (window : ℕ) (items : List NodeItem) : Type 0 where
  pub taken : List LogEntry
  pub reads : IsReading tells files s.reader (reading_of s) taken (feed_sent (items ++ waiting_item s.pending))
  pub in_time : ComeInTime no_feed (items ++ waiting_item s.pending)
  pub ends : EndsAs closes_node_window window s.ended items
  pub closed : IsWindowOver s → IsWindowGiven tells files s taken (feed_sent (items ++ waiting_item s.pending))
  pub emptied : s.ended ≡ true → s.pending ≡ None

-- a stage reads a log from its point on
pub record IsNodeStanding (tells : Bool) (files : List (List ℕ)) (s : NodeState) : Type 0 where
  pub taken : List LogEntry
  pub feed : NodeFeed
  pub reads : IsReading tells files s.reader (reading_of s) taken feed
  pub onward : IsFromOn s.from.place s.reader.log.place
