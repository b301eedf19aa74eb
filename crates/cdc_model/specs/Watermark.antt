-- Water marks: which timestamps a node's log has reached, and which it can no longer bring.
use Rattle.std.specs.Prelude.{◌≡◌, ℕ, ◌+◌, ◌≤◌, min, Bool, true, false, List, [], ◌∷◌, if◌then◌else◌, map, length, Option, Some, None, is_some, Contains, All}
use Rattle.cdc_base.specs.declared.xid.Xid.{Xid}
use Rattle.cdc_model.specs.declared.entry.EntryKind.{EntryKind}
use Rattle.cdc_model.specs.declared.entry.EntryKind.TheVariants.{Prepare, OnePhase, Commit, Rollback, Plain, Beat}
use Rattle.cdc_model.specs.Records.{LogEntry, Start}
use Rattle.cdc_base.specs.Xid.{same_xid}
use Rattle.cdc_model.specs.Start.{stamp, find_open, left_by}

-- the least of some numbers and a first one
abbrev pub least : ℕ → List ℕ → ℕ
least most [] = most
least most (number ∷ numbers) = least (min most number) numbers

-- a node's high-water mark: the greatest timestamp that its entries brought
abbrev pub high_water_mark : Start → List LogEntry → ℕ
high_water_mark start history = (left_by start history).mark

-- a node's low-water mark: no later entry can commit a branch at or below it
abbrev pub node_low_water_mark : Start → ℕ
node_low_water_mark start = least start.mark (map (λ o. o.floor) start.opened)

-- the low-water mark of all nodes: the least of theirs, 0 of no node
abbrev pub low_water_mark : List ℕ → ℕ
low_water_mark [] = 0
low_water_mark (mark ∷ marks) = least mark marks

-- what an entry says of a branch: that it opens, that it ends, or nothing
abbrev pub verdict : Xid → EntryKind → Option Bool
verdict xid (Prepare other rows) = if same_xid xid other then Some true else None
verdict xid (OnePhase other rows timestamp seconds) = None
verdict xid (Commit other timestamp seconds) = if same_xid xid other then Some false else None
verdict xid (Rollback other) = if same_xid xid other then Some false else None
verdict xid (Plain rows seconds) = None
verdict xid (Beat timestamp) = None

-- a verdict, or else an earlier one
abbrev pub verdict_or : Option Bool → Bool → Bool
verdict_or (Some opens) earlier = opens
verdict_or None earlier = earlier

-- whether a branch is open behind a history: its newest Prepare, Commit or Rollback is a Prepare; without
-- one, as it was before
abbrev pub is_open_branch : Xid → Bool → List LogEntry → Bool
is_open_branch xid before [] = before
is_open_branch xid before (entry ∷ earlier) = verdict_or (verdict xid entry.kind) (is_open_branch xid before earlier)

-- law: the open branches are exactly those whose newest Prepare, Commit or Rollback is a Prepare
abbrev pub OpenAsNewestSays : Type 0
OpenAsNewestSays = (xid : Xid) (start : Start) (history : List LogEntry)
    → is_some (find_open xid (left_by start history).opened) ≡ is_open_branch xid (is_some (find_open xid start.opened)) history

-- law: entries are numbered one after another
abbrev pub NumbersCount : Type 0
NumbersCount = (start : Start) (history : List LogEntry) → (left_by start history).entry ≡ start.entry + length history

-- a number that is at most each of some, and one of them
pub record IsLeast (number : ℕ) (numbers : List ℕ) : Type 0 where
  pub below : All (λ other. number ≤ other) numbers
  pub reached : Contains numbers number

-- a number that is at least each of some, and one of them
pub record IsGreatest (number : ℕ) (numbers : List ℕ) : Type 0 where
  pub above : All (λ other. other ≤ number) numbers
  pub reached : Contains numbers number

-- law: the high-water mark is the greatest of the timestamps so far and the mark of before
abbrev pub MarkIsGreatest : Type 0
MarkIsGreatest = (start : Start) (history : List LogEntry)
    → IsGreatest (high_water_mark start history) (start.mark ∷ map (λ entry. stamp entry.kind) history)

-- law: a node's low-water mark is the least of its mark and of its open branches' floors
abbrev pub NodeMarkIsLeast : Type 0
NodeMarkIsLeast = (start : Start) → IsLeast (node_low_water_mark start) (start.mark ∷ map (λ o. o.floor) start.opened)

-- law: the low-water mark of one or more nodes is the least of theirs
abbrev pub MarkIsLeast : Type 0
MarkIsLeast = (first : ℕ) (rest : List ℕ) → IsLeast (low_water_mark (first ∷ rest)) (first ∷ rest)
