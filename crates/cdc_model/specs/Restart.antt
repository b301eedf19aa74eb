-- Restart points: from where the log of a node may be read again, and what stands open there.
use Rattle.std.specs.Prelude.{◌≡◌, ◌≤◌, ◌<◌, ◌↔◌, ℕ, ◌+◌, ◌-◌, nat_le, false, List, [], ◌∷◌, ◌++◌, length, map, filter, take, drop, reverse, Option}
use Rattle.std.specs.List.{AllByRecursion, AllZip, enumerate_from}
use Rattle.std.specs.Ordering.{is_gt}
use Rattle.cdc_base.specs.declared.key.Key.{Key}
use Rattle.cdc_base.specs.declared.place.Place.{Place}
use Rattle.cdc_base.specs.declared.rename.Rename.{Rename}
use Rattle.cdc_base.specs.declared.xid.Xid.{Xid}
use Rattle.cdc_base.specs.Key.{key_order, first_key}
use Rattle.cdc_model.specs.declared.fault.NodeFault.{NodeFault}
use Rattle.cdc_model.specs.declared.fault.NodeFault.TheVariants.{Sort}
use Rattle.cdc_model.specs.declared.node_log.NodeLog.{NodeLog}
use Rattle.cdc_model.specs.Records.{LogEntry, OpenBranch, Start}
use Rattle.cdc_model.specs.Start.{left_by}
use Rattle.cdc_model.specs.Watermark.{least, node_low_water_mark}
use Rattle.cdc_model.specs.Soundness.{sound_entries, log_fault, reached}
use Rattle.cdc_model.specs.Branch.{Begun, begun_branches, is_new}
use Rattle.cdc_model.specs.Entries.{AreLogEntries}
use Rattle.cdc_model.specs.Transaction.{node_branches, logs_low_water_mark, ordered_transactions, settled_transactions, oversized_transaction, key_at}
use Rattle.cdc_model.specs.Commits.{IsStart}
use Rattle.cdc_model.specs.SettledOrder.{IsFront}
use Rattle.cdc_model.specs.ReadFrom.{first_place, AreEntriesReadFrom}
use Rattle.cdc_model.specs.Growth.{LogsGrow}

-- a point of a node's log: the number of the entry that comes next, the place and the checksum setting from which it is read, the
-- high-water mark before it, and the branches that stand open there, each with its floor
pub record RestartPoint : Type 0 where
  pub entry : ℕ
  pub place : Place
  pub mark : ℕ
  pub checksum : ℕ
  pub held : List (Xid × ℕ)

-- the start of a log
abbrev pub first_point : RestartPoint
first_point = record { entry = 1; place = first_place; mark = 0; checksum = 0; held = [] }

-- a held branch as a reading from there has it open: without its rows, and without a number
abbrev pub held_open : Xid × ℕ → OpenBranch
held_open held = record { xid = held.0; floor = held.1; entry = 0; rows = [] }

-- what a restart point tells of an open branch
abbrev pub held_of : OpenBranch → Xid × ℕ
held_of branch = (branch.xid, branch.floor)

-- where a reading from a restart point begins
abbrev pub start_at : RestartPoint → Start
start_at point = record { entry = point.entry; mark = point.mark; opened = map held_open point.held }

-- the point behind a history that was read from another
abbrev pub point_behind : RestartPoint → List LogEntry → RestartPoint
point_behind from [] = from
point_behind from (entry ∷ earlier) =
    let here = left_by (start_at from) (entry ∷ earlier) in
    record { entry = here.entry; place = entry.end; mark = here.mark; checksum = entry.checksum; held = map held_of here.opened }

-- the point before the entry of a number, among entries read from another point, the oldest first
abbrev pub point_before : RestartPoint → List LogEntry → ℕ → RestartPoint
point_before from entries number = point_behind from (reverse (take (number - from.entry) entries))

-- a key that is at most another
abbrev pub IsAtMost : Key → Key → Type 0
IsAtMost key last = is_gt (key_order key last) ≡ false

-- an entry's number is sound for a key: what was prepared from the start on and before that entry has ended, and what began there
-- and was committed has a key of at most this one
pub record IsRestartEntry (last : Key) (start : Start) (node : ℕ) (history : List LogEntry) (number : ℕ) : Type 0 where
  pub first : start.entry ≤ number
  pub most : number ≤ start.entry + length history
  pub ended : AllByRecursion (λ (branch : OpenBranch). start.entry ≤ branch.entry → number ≤ branch.entry) (left_by start history).opened
  pub below : AllByRecursion (λ (b : Begun). start.entry ≤ b.0 → b.0 < number → IsAtMost b.1.key last) (begun_branches start node history)

-- a restart point of a node for a key, by its sound entries as they are read from another point: its number is sound, and all its
-- parts are those of the point before that entry
pub record IsRestartPoint (last : Key) (from : RestartPoint) (node : ℕ) (entries : List LogEntry) (point : RestartPoint) : Type 0 where
  pub sound : IsRestartEntry last (start_at from) node (reverse entries) point.entry
  pub parts : point ≡ point_before from entries point.entry

-- the latest one
pub record IsLatestPoint (last : Key) (from : RestartPoint) (node : ℕ) (entries : List LogEntry) (point : RestartPoint) : Type 0 where
  pub sound : IsRestartPoint last from node entries point
  pub latest : (number : ℕ) → IsRestartEntry last (start_at from) node (reverse entries) number → number ≤ point.entry

-- the number of the latest: the least of the next entry's, of those of the Prepares that wait from the start on, and of those with
-- which branches with greater keys began
abbrev pub latest_number : Key → Start → ℕ → List LogEntry → ℕ
latest_number last start node history =
    least (left_by start history).entry
    (map (λ (branch : OpenBranch). branch.entry) (filter (λ (branch : OpenBranch). nat_le start.entry branch.entry) (left_by start history).opened)
    ++ map (λ (b : Begun). b.0) (filter (is_new last start) (begun_branches start node history)))

-- the latest restart point itself
abbrev pub latest_point : Key → RestartPoint → ℕ → List LogEntry → RestartPoint
latest_point last from node entries = point_before from entries (latest_number last (start_at from) node (reverse entries))

-- ---- laws of one node

-- law: a reading's start is a restart point for every key
abbrev pub StartIsRestartPoint : Type 0
StartIsRestartPoint = (last : Key) (from : RestartPoint) (node : ℕ) (entries : List LogEntry) → IsRestartPoint last from node entries from

-- law: a restart point stays one for a greater key and in a longer log
abbrev pub RestartPointStays : Type 0
RestartPointStays = (last later : Key) (from : RestartPoint) (node : ℕ) (entries more : List LogEntry) (point : RestartPoint)
    → IsAtMost last later → IsFront entries more → IsRestartPoint last from node entries point → IsRestartPoint later from node more point

-- law: the sound numbers are those from the start's up to the latest one
abbrev pub SoundNumbersEnd : Type 0
SoundNumbersEnd = (last : Key) (start : Start) (node : ℕ) (history : List LogEntry) (number : ℕ)
    → IsRestartEntry last start node history number ↔ ((start.entry ≤ number) × (number ≤ latest_number last start node history))

-- there is a latest restart point, and it is the only one
pub record HasLatestPoint (last : Key) (from : RestartPoint) (node : ℕ) (entries : List LogEntry) : Type 0 where
  pub is : IsLatestPoint last from node entries (latest_point last from node entries)
  pub only : (other : RestartPoint) → IsLatestPoint last from node entries other → other ≡ latest_point last from node entries

-- law: each reading has one latest restart point
abbrev pub OneLatestPoint : Type 0
OneLatestPoint = (last : Key) (from : RestartPoint) (node : ℕ) (entries : List LogEntry) → HasLatestPoint last from node entries

-- law: the latest restart point never falls
abbrev pub LatestNeverFalls : Type 0
LatestNeverFalls = (last later : Key) (from : RestartPoint) (node : ℕ) (entries more : List LogEntry) (point other : RestartPoint)
    → IsAtMost last later → IsFront entries more → IsLatestPoint last from node entries point → IsLatestPoint later from node more other
    → point.entry ≤ other.entry

-- law: a reading from a restart point begins well: its held branches are in order, without numbers and rows
abbrev pub RestartPointIsStart : Type 0
RestartPointIsStart = (last : Key) (from : RestartPoint) (node : ℕ) (entries : List LogEntry) (point : RestartPoint)
    → IsStart (start_at from) → IsRestartPoint last from node entries point → IsStart (start_at point)

-- a reading that goes on from a restart point, beside the whole one
pub record ReadsTheRest (last : Key) (node : ℕ) (whole resumed : NodeLog) : Type 0 where
  pub bound : node_low_water_mark (reached resumed) ≡ node_low_water_mark (reached whole)
  pub branches : node_branches last (node, resumed) ≡ node_branches last (node, whole)
  pub before : List LogEntry
  pub number : resumed.start.entry ≡ whole.start.entry + length before
  pub sound : sound_entries whole.start whole.entries ≡ before ++ sound_entries resumed.start resumed.entries
  pub fault : (ended : Option (Place × NodeFault))
      → log_fault Sort resumed.start resumed.entries ended ≡ log_fault Sort whole.start whole.entries ended

-- a log that is read from a restart point on, by its entries as they are read from another
abbrev pub log_behind : RestartPoint → RestartPoint → List LogEntry → NodeLog
log_behind from point entries = record { start = start_at point; entries = drop (point.entry - from.entry) entries }

-- law: read from a restart point on, a log that has gone on has the same low-water mark, the same fault, the sound entries behind
-- that point, and the committed branches with keys above the point's
abbrev pub RestartReadsTheRest : Type 0
RestartReadsTheRest = (last : Key) (from point : RestartPoint) (node : ℕ) (old entries : List LogEntry)
    → 1 ≤ from.entry → IsFront (sound_entries (start_at from) old) (sound_entries (start_at from) entries)
    → IsRestartPoint last from node (sound_entries (start_at from) old) point
    → ReadsTheRest last node (record { start = start_at from; entries = entries }) (log_behind from point entries)

-- law: the entries of a log's bytes from a restart point's place on, under its setting, are those from its number on
abbrev pub RestartPlaceReadsTheRest : Type 0
RestartPlaceReadsTheRest = (last : Key) (point : RestartPoint) (node : ℕ) (files : List (List ℕ)) (old entries : List LogEntry) (fault : Option (Place × NodeFault))
    → AreLogEntries files entries fault → IsFront (sound_entries (start_at first_point) old) (sound_entries (start_at first_point) entries)
    → IsRestartPoint last first_point node (sound_entries (start_at first_point) old) point
    → AreEntriesReadFrom point.place point.checksum files (drop (point.entry - 1) entries) fault

-- behind a restart point of a log's entries, the restart points of what is read from there are those of the whole log with
-- numbers from there on, and so is the latest one
pub record PointsGoOn (last : Key) (from point : RestartPoint) (node : ℕ) (before behind : List LogEntry) : Type 0 where
  pub forth : (other : RestartPoint) → IsRestartPoint last point node behind other → IsRestartPoint last from node (before ++ behind) other
  pub back : (other : RestartPoint) → point.entry ≤ other.entry → IsRestartPoint last from node (before ++ behind) other
      → IsRestartPoint last point node behind other
  pub latest : (other : RestartPoint) → IsLatestPoint last point node behind other → IsLatestPoint last from node (before ++ behind) other

-- law: restart points that are found behind a restart point are those of the whole log, for a key that isn't lesser
abbrev pub RestartedPointsAreTheWholes : Type 0
RestartedPointsAreTheWholes = (last later : Key) (from point : RestartPoint) (node : ℕ) (before behind : List LogEntry)
    → 1 ≤ from.entry → IsAtMost last later → point.entry ≡ from.entry + length before
    → IsRestartPoint last from node (before ++ behind) point → PointsGoOn later from point node before behind

-- ---- laws of all nodes

-- a restart point of each node for a key
abbrev pub AreRestartPoints : Key → List NodeLog → List RestartPoint → Type 0
AreRestartPoints last logs points =
    AllZip (λ (node : ℕ × NodeLog) (point : RestartPoint). IsRestartPoint last first_point node.0 (sound_entries node.1.start node.1.entries) point)
    (enumerate_from 1 logs) points

-- logs that are read whole
abbrev pub AreWhole : List NodeLog → Type 0
AreWhole logs = AllByRecursion (λ (log : NodeLog). log.start ≡ start_at first_point) logs

-- the logs of all nodes, each read from its restart point on
abbrev pub logs_behind : List RestartPoint → List NodeLog → List NodeLog
logs_behind [] logs = []
logs_behind (point ∷ points) [] = []
logs_behind (point ∷ points) (log ∷ logs) = log_behind first_point point log.entries ∷ logs_behind points logs

-- what is read from the restart points of all nodes, beside what the whole logs settle
pub record GivesTheRest (rules : List Rename) (count : ℕ) (last : Key) (wholes resumed : List NodeLog) : Type 0 where
  pub bound : logs_low_water_mark resumed ≡ logs_low_water_mark wholes
  pub ordered : ordered_transactions count last resumed ≡ drop count (ordered_transactions 0 first_key wholes)
  pub settled : settled_transactions rules count last resumed ≡ drop count (settled_transactions rules 0 first_key wholes)
  pub oversized : oversized_transaction rules count last resumed ≡ oversized_transaction rules 0 first_key wholes

-- law: where each node's log is read from a restart point for the key of the n-th transaction, and all have gone on since, numbering
-- from n gives the transactions behind the first n
abbrev pub RestartGivesTheRest : Type 0
RestartGivesTheRest = (rules : List Rename) (count : ℕ) (olds news : List NodeLog) (points : List RestartPoint)
    → AreWhole olds → LogsGrow olds news → count ≤ length (settled_transactions rules 0 first_key olds)
    → AreRestartPoints (key_at (settled_transactions rules 0 first_key olds) count) olds points
    → GivesTheRest rules count (key_at (settled_transactions rules 0 first_key olds) count) news (logs_behind points news)
