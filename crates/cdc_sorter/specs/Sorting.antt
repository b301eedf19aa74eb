-- What a sorter keeps, and what it says of the reading that it follows.
use Rattle.std.specs.Prelude.{◌≡◌, ℕ, Bool, true, false, List, [], ◌∷◌, ◌++◌, map, Option, Some, None}
use Rattle.std.specs.List.{AllByRecursion}
use Rattle.cdc_base.specs.declared.key.Key.{Key}
use Rattle.cdc_base.specs.declared.place.Place.{Place}
use Rattle.cdc_model.specs.declared.fault.SortFault.{SortFault}
use Rattle.cdc_model.specs.declared.entry.EntryKind.{EntryKind}
use Rattle.cdc_model.specs.Records.{LogEntry, CommittedBranch, Start}
use Rattle.cdc_model.specs.Start.{left_by}
use Rattle.cdc_model.specs.Commits.{IsStart}
use Rattle.cdc_model.specs.Branch.{Begun, branch_of, new_branches, committed_branches, is_settled}
use Rattle.cdc_model.specs.Watermark.{node_low_water_mark}
use Rattle.cdc_model.specs.SettledOrder.{IsFront}
use Rattle.cdc_model.specs.Feed.{own_branches}
use Rattle.cdc_model.specs.NodeReading.{low_behind, node_settled}
use Rattle.cdc_model.specs.Restart.{RestartPoint, start_at}
use Rattle.cdc_sorter.specs.Waiting.{AscendByKey, wait_with_all}
use Rattle.cdc_sorter.specs.Trail.{Trail, Standings, reading_start, standing_held, standings_behind, trail_by, trail_behind}
use Rattle.cdc_sorter.specs.Points.{HoldsPoints}

-- what a sorter goes by: the key above which branches are given, the point from which the log is read, and the node
pub record SortReading : Type 0 where
  pub last : Key
  pub from : RestartPoint
  pub node : ℕ

-- what a sorter keeps: the last key and the node, the number of its first entry, where the reading stands, the committed branches
-- that it hasn't given yet, the way behind it, and the fault that stopped it
pub record Sorting : Type 0 where
  pub last : Key
  pub node : ℕ
  pub first : ℕ
  pub here : Standings
  pub waiting : List CommittedBranch
  pub trail : Trail
  pub stopped : Option SortFault

-- where a reading stands behind a history
abbrev pub history_behind : SortReading → List LogEntry → Start
history_behind reading history = left_by (start_at reading.from) history

-- the branches that a history commits, with keys above the reading's last one
abbrev pub committed_behind : SortReading → List LogEntry → List CommittedBranch
committed_behind reading history = committed_branches reading.last (start_at reading.from) reading.node history

-- the low-water mark behind a history
abbrev pub low_of : SortReading → List LogEntry → ℕ
low_of reading history = low_behind (start_at reading.from) history

-- the branches that it settles, in order
abbrev pub settled_behind : SortReading → List LogEntry → List CommittedBranch
settled_behind reading history = node_settled reading.last (start_at reading.from) reading.node history

-- what is new of some branches for a sorter: it began at or behind the first entry, and its key is above the last one
abbrev pub new_of : Key → ℕ → List Begun → List CommittedBranch
new_of last first branches = new_branches last record { entry = first; mark = 0; opened = [] } branches

-- a sorter at a point of a log
abbrev pub sorter_at : Key → ℕ → RestartPoint → Sorting
sorter_at last node point = record {
  last = last;
  node = node;
  first = point.entry;
  here = record { entry = point.entry; mark = point.mark; opened = map (standing_held point.place point.checksum) point.held };
  waiting = [];
  trail = record { place = point.place; checksum = point.checksum; ended = []; recent = []; known = last };
  stopped = None;
}

-- a sorter that has taken what an entry says
abbrev pub sorter_by : EntryKind → Sorting → Sorting
sorter_by kind sorter = record {
  last = sorter.last;
  node = sorter.node;
  first = sorter.first;
  here = standings_behind kind sorter.trail.place sorter.trail.checksum sorter.here;
  waiting = wait_with_all sorter.waiting (new_of sorter.last sorter.first (branch_of sorter.node kind (reading_start sorter.here)));
  trail = trail_by kind sorter.first sorter.node sorter.here sorter.trail;
  stopped = sorter.stopped;
}

-- a sorter that has taken an entry more, up to a place under a checksum setting
abbrev pub sorter_on : EntryKind → Place → ℕ → Sorting → Sorting
sorter_on kind end checksum sorter = record {
  last = sorter.last;
  node = sorter.node;
  first = sorter.first;
  here = standings_behind kind sorter.trail.place sorter.trail.checksum sorter.here;
  waiting = wait_with_all sorter.waiting (new_of sorter.last sorter.first (branch_of sorter.node kind (reading_start sorter.here)));
  trail = trail_behind (trail_by kind sorter.first sorter.node sorter.here sorter.trail) end checksum;
  stopped = sorter.stopped;
}

-- a sorter that has taken an entry more
abbrev pub sorter_with : LogEntry → Sorting → Sorting
sorter_with entry sorter = sorter_on entry.kind entry.end entry.checksum sorter

-- a sorter that a fault has stopped
abbrev pub sorter_stopped : SortFault → Sorting → Sorting
sorter_stopped fault sorter = record {
  last = sorter.last;
  node = sorter.node;
  first = sorter.first;
  here = sorter.here;
  waiting = sorter.waiting;
  trail = sorter.trail;
  stopped = Some fault;
}

-- whether the first branch that waits is settled
abbrev pub is_first_settled : ℕ → List CommittedBranch → Bool
is_first_settled mark [] = false
is_first_settled mark (first ∷ rest) = is_settled mark first.key

-- whether a sorter has a branch to give
abbrev pub is_ready : Sorting → Bool
is_ready sorter = is_first_settled (node_low_water_mark (reading_start sorter.here)) sorter.waiting

-- a sorter that has taken a history, the newest entry first, and has given these branches, the first one first
pub record HoldsReading (sorter : Sorting) (reading : SortReading) (history : List LogEntry) (gave : List CommittedBranch) : Type 0 where
  pub last : sorter.last ≡ reading.last
  pub node : sorter.node ≡ reading.node
  pub first : sorter.first ≡ reading.from.entry
  pub here : reading_start sorter.here ≡ history_behind reading history
  pub ordered : AscendByKey (gave ++ sorter.waiting)
  pub branches : (key : Key) → own_branches (gave ++ sorter.waiting) key ≡ own_branches (committed_behind reading history) key
  pub settled : AllByRecursion (λ (branch : CommittedBranch). is_settled (low_of reading history) branch.key ≡ true) gave
  pub points : IsStart (start_at reading.from) → HoldsPoints reading.from reading.node history sorter.here sorter.trail

-- law: what a sorter has given are the first of the settled branches of what it has taken
abbrev pub GaveIsAFront : Type 0
GaveIsAFront = (sorter : Sorting) (reading : SortReading) (history : List LogEntry) (gave : List CommittedBranch)
    → HoldsReading sorter reading history gave → IsFront gave (settled_behind reading history)
