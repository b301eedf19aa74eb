-- What one turn of a node's stage does.
use Rattle.std.specs.Prelude.{◌≡◌, ◌⊎◌, ◌≤◌, ◌<◌, ◌+◌, ◌*◌, ◌^◌, ℕ, Bool, true, false, not, ◌==◌, IsTrue, List, [], length, Option, Some, None}
use Rattle.cdc_model.specs.Watermark.{node_low_water_mark}
use Rattle.cdc_sorter.specs.Trail.{reading_start}
use Rattle.cdc_reader.specs.declared.step.NodeEnd.TheVariants.{Open}
use Rattle.cdc_reader.specs.Asking.{bytes_up_to}
use Rattle.cdc_reader.specs.Standing.{ReaderState, is_going}
use Rattle.cdc_turns.specs.declared.turn.Turn.{Turn}
use Rattle.cdc_turns.specs.declared.turn.Turn.TheVariants.{Moved, Blocked, Done}
use Rattle.cdc_turns.specs.Turns.{one_if}
use Rattle.cdc_item.specs.declared.node_item.NodeItem.{NodeItem}
use Rattle.cdc_item.specs.declared.node_item.NodeItem.TheVariants.{Branch, Bound, End}
use Rattle.cdc_node_stage.specs.Sending.{NodeState, reading_of}

-- how many items may come of what is at hand: each byte that isn't cut gives at most a branch and a bound
abbrev pub items_at_hand : ReaderState → ℕ
items_at_hand reader =
    2 * length reader.log.follower.cutter.rest + length reader.sorter.waiting
    + one_if (not (reader.told == node_low_water_mark (reading_start reader.sorter.here)))

-- the item that waits is one move, but for the End, which is counted as long as it wasn't sent
abbrev pub moves_waiting : Option NodeItem → ℕ
moves_waiting None = 0
moves_waiting (Some (Branch branch)) = 1
moves_waiting (Some (Bound bound)) = 1
moves_waiting (Some End) = 0

-- how many moves a window may still have: before a read at most 2^64 items are at hand
abbrev pub moves_left : NodeState → ℕ
moves_left s =
    2 ^ 65 * (s.room + one_if (is_going s.reader.end)) + items_at_hand s.reader + moves_waiting s.pending + one_if (not s.ended)

-- a stage's work, where an item that it sends costs so much behind it
abbrev pub node_work : NodeState → ℕ → ℕ
node_work s weight = (weight + 1) * moves_left s

-- something was done: an item was sent, bytes were read, or the reading's end was recorded
abbrev pub HasDone : NodeState → List NodeItem → NodeState → Type 0
HasDone old items new =
    (length items ≡ 1) ⊎ ((items ≡ []) × ((new.room < old.room) ⊎ ((old.reader.end ≡ Open) × (new.reader.end ≡ Open → ⊥))))

-- what a turn sent, by its answer
abbrev pub IsNodeTurn : NodeState → List NodeItem → NodeState → Turn → Type 0
IsNodeTurn old items new Moved = (old.ended ≡ false) × HasDone old items new
IsNodeTurn old items new Blocked = (old.ended ≡ false) × (new.ended ≡ false) × (items ≡ [])
IsNodeTurn old items new Done = (old.ended ≡ true) × (items ≡ []) × (new ≡ old)

-- what stays of a stage: what it goes by, its window and the key up to which it forgot; and a reading that is over stays so
pub record KeepsReading (old new : NodeState) : Type 0 where
  pub reading : reading_of new ≡ reading_of old
  pub window : new.window ≡ old.window
  pub known : new.reader.sorter.trail.known ≡ old.reader.sorter.trail.known
  pub over : (old.reader.end ≡ Open → ⊥) → new.reader.end ≡ old.reader.end

-- the log was read on by no more bytes than the room fell
abbrev pub ReadsWithin : Bool → List (List ℕ) → NodeState → NodeState → Type 0
ReadsWithin tells files old new = IsTrue tells → bytes_up_to files new.reader.log.place + new.room ≤ bytes_up_to files old.reader.log.place + old.room
