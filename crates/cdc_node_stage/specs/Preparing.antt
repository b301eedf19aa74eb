-- What is to be sent, and how it is sent.
use Rattle.std.specs.Prelude.{◌≡◌, ◌⊎◌, ◌≤◌, ◌<◌, ◌+◌, ◌*◌, ℕ, Bool, false, IsTrue, List, [], ◌∷◌, ◌++◌, length, Option, Some, None, is_none}
use Rattle.cdc_model.specs.Records.{LogEntry}
use Rattle.cdc_model.specs.Feed.{NodeFeed}
use Rattle.cdc_model.specs.NodeReading.{no_feed}
use Rattle.cdc_reader.specs.declared.step.NodeEnd.TheVariants.{Open}
use Rattle.cdc_reader.specs.declared.step.Step.{Step}
use Rattle.cdc_reader.specs.declared.step.Step.TheVariants.{Branch as GivesBranch, Bound as TellsBound, Read as BytesRead, End as LastStep}
use Rattle.cdc_reader.specs.Asking.{IsFromOn}
use Rattle.cdc_reader.specs.LogFront.{IsTakenTo}
use Rattle.cdc_reader.specs.Standing.{AllGiven, IsReading}
use Rattle.cdc_sorter.specs.Sorting.{SortReading}
use Rattle.cdc_turns.specs.Ends.{EndsAs}
use Rattle.cdc_turns.specs.declared.turn.Turn.{Turn}
use Rattle.cdc_turns.specs.declared.turn.Turn.TheVariants.{Moved, Blocked, Done}
use Rattle.cdc_turns.specs.Turns.{is_move, one_if}
use Rattle.cdc_item.specs.declared.node_item.NodeItem.{NodeItem}
use Rattle.cdc_item.specs.declared.node_item.NodeItem.TheVariants.{Branch, Bound, End}
use Rattle.cdc_item.specs.Item.{closes_node_window}
use Rattle.cdc_node_stage.specs.Feeding.{feed_sent, ComeInTime}
use Rattle.cdc_node_stage.specs.Sending.{NodeState, reading_of, HasSent, IsNodeStanding}
use Rattle.cdc_node_stage.specs.Turning.{moves_left, node_work, IsNodeTurn, KeepsReading, ReadsWithin}

-- a stage at its beginning: it goes by this reading, in windows of so many bytes, and has sent nothing
pub record BeginsAs (s : NodeState) (reading : SortReading) (window : ℕ) : Type 0 where
  pub sends : (tells : Bool) (files : List (List ℕ)) → HasSent tells files s 1 []
  pub stands : (tells : Bool) (files : List (List ℕ)) → IsNodeStanding tells files s
  pub goes_by : reading_of s ≡ reading
  pub fresh : (s.window ≡ window) × (s.room ≡ window) × (s.ended ≡ false) × (s.reader.end ≡ Open)
  pub known : s.reader.sorter.trail.known ≡ reading.last

-- what was sent, where nothing waits, all that is settled was given, and the bytes that were read have no more entries
pub record HasSentAll (tells : Bool) (files : List (List ℕ)) (s : NodeState) (window : ℕ) (items : List NodeItem) : Type 0 where
  pub taken : List LogEntry
  pub reads : IsReading tells files s.reader (reading_of s) taken (feed_sent items)
  pub in_time : ComeInTime no_feed items
  pub ends : EndsAs closes_node_window window s.ended items
  pub given : AllGiven (reading_of s) taken (feed_sent items)
  pub all : IsTrue tells → IsTakenTo s.from files s.reader.log.follower s.reader.log.place taken

-- a stage that stands so
pub record StandsAll (tells : Bool) (files : List (List ℕ)) (s : NodeState) : Type 0 where
  pub taken : List LogEntry
  pub feed : NodeFeed
  pub reads : IsReading tells files s.reader (reading_of s) taken feed
  pub onward : IsFromOn s.from.place s.reader.log.place
  pub given : AllGiven (reading_of s) taken feed
  pub all : IsTrue tells → IsTakenTo s.from files s.reader.log.follower s.reader.log.place taken

-- the item of what comes next of a reader
abbrev pub item_of : Step → NodeItem
item_of (GivesBranch branch) = Branch branch
item_of (TellsBound bound) = Bound bound
item_of (BytesRead count) = End
item_of LastStep = End

-- how many bytes a step read; none where it is another
abbrev pub count_in : Step → Option ℕ
count_in (GivesBranch branch) = None
count_in (TellsBound bound) = None
count_in (BytesRead count) = Some count
count_in LastStep = None

-- what a read came to: bytes, or the end
abbrev pub step_read : Option ℕ → Step
step_read None = LastStep
step_read (Some count) = BytesRead count

-- from a stage to one with an item in its hands, or to one that read bytes or recorded its end: what was sent stands on, by these
-- premises of it, and the moves that are left fell
pub record Prepares (tells : Bool) (files : List (List ℕ)) (sent : ℕ → List NodeItem → Type 0) (old new : NodeState) (item : Option NodeItem) : Type 0 where
  pub sends : (window : ℕ) (items : List NodeItem) → sent window items → HasSent tells files new window items
  pub stands : IsNodeStanding tells files new
  pub going : new.ended ≡ false
  pub cost : moves_left new + one_if (is_none item) ≤ moves_left old
  pub done : item ≡ None → (new.room < old.room) ⊎ ((old.reader.end ≡ Open) × (new.reader.end ≡ Open → ⊥))
  pub keeps : KeepsReading old new
  pub within : ReadsWithin tells files old new

-- all that is settled of what was taken was sent, and of what the bytes at hand have more
abbrev pub AllWasSent : Bool → List (List ℕ) → NodeState → Type 0
AllWasSent tells files s = (window : ℕ) (items : List NodeItem) (sent : HasSent tells files s window items)
    → (more : List LogEntry) × AllGiven (reading_of s) (sent.taken ++ more) (feed_sent items)

-- a stage that has sent the item in its hands
abbrev pub sent_state : NodeState → NodeItem → NodeState
sent_state s item = record { reader = s.reader; from = s.from; pending = None; window = s.window; room = s.room; ended = closes_node_window item }

-- a stage in whose next window nothing was sent yet
abbrev pub opened_again : NodeState → NodeState
opened_again s = record { reader = s.reader; from = s.from; pending = s.pending; window = s.window; room = s.window; ended = false }

-- what a push did of an item in a stage's hands, by the turn's answer: it was sent; or it waits
abbrev pub IsPushed : NodeState → NodeItem → List NodeItem → NodeState → Turn → Type 0
IsPushed held item items new Moved = (items ≡ item ∷ []) × (new ≡ sent_state held item)
IsPushed held item items new Blocked = (items ≡ []) × (new ≡ held)
IsPushed held item items new Done = ⊥

-- a turn: what it sent stands behind what was sent before, and its work fell by one move and what the item may cost
pub record TurnsStage (tells : Bool) (files : List (List ℕ)) (old : NodeState) (items : List NodeItem) (new : NodeState) (turn : Turn) : Type 0 where
  pub is : IsNodeTurn old items new turn
  pub did : (window : ℕ) (before : List NodeItem) → HasSent tells files old window before → HasSent tells files new window (before ++ items)
  pub stands : IsNodeStanding tells files new
  pub cost : (weight : ℕ) → node_work new weight + weight * length items + one_if (is_move turn) ≤ node_work old weight
  pub keeps : KeepsReading old new
  pub within : ReadsWithin tells files old new
