-- Which entries of a log are sound, and the fault that ends them.
use Rattle.std.specs.Prelude.{◌≡◌, ◌+◌, ◌<◌, ◌^◌, ℕ, length, nat_le, List, [], ◌∷◌, ◌++◌, if◌then◌else◌, is_none, reverse, Option, Some, None}
use Rattle.cdc_base.specs.declared.place.Place.{Place}
use Rattle.cdc_base.specs.declared.xid.Xid.{Xid}
use Rattle.cdc_model.specs.declared.entry.EntryKind.{EntryKind}
use Rattle.cdc_model.specs.declared.entry.EntryKind.TheVariants.{Prepare, OnePhase, Commit, Rollback, Plain, Beat}
use Rattle.cdc_model.specs.declared.fault.SortFault.{SortFault}
use Rattle.cdc_model.specs.declared.fault.SortFault.TheVariants.{DoublePrepare, UnknownBranch, Undercut}
use Rattle.cdc_model.specs.declared.node_log.NodeLog.{NodeLog}
use Rattle.cdc_model.specs.Records.{LogEntry, OpenBranch, Start}
use Rattle.cdc_model.specs.Start.{find_open, next, left_by}

-- a timestamp must be above its branch's floor
abbrev pub undercut : ℕ → ℕ → Option SortFault
undercut timestamp floor = if nat_le timestamp floor then Some (Undercut timestamp floor) else None

-- a branch that is open can't be prepared again
abbrev pub unless_open : Xid → Option OpenBranch → Option SortFault → Option SortFault
unless_open xid (Some branch) fault = Some (DoublePrepare xid)
unless_open xid None fault = fault

-- a branch that isn't open can't end
abbrev pub when_open : Xid → Option OpenBranch → (OpenBranch → Option SortFault) → Option SortFault
when_open xid (Some branch) fault = fault branch
when_open xid None fault = Some (UnknownBranch xid)

-- what makes an entry unsound behind a starting point, or none
abbrev pub entry_fault : EntryKind → Start → Option SortFault
entry_fault (Prepare xid rows) start = unless_open xid (find_open xid start.opened) None
entry_fault (OnePhase xid rows timestamp seconds) start =
    unless_open xid (find_open xid start.opened) (undercut timestamp start.mark)
entry_fault (Commit xid timestamp seconds) start =
    when_open xid (find_open xid start.opened) (λ branch. undercut timestamp branch.floor)
entry_fault (Rollback xid) start = when_open xid (find_open xid start.opened) (λ _. None)
entry_fault (Plain rows seconds) start = None
entry_fault (Beat timestamp) start = None

-- the sound entries of a log, oldest first: its longest front whose each entry is sound behind those before it
abbrev pub sound_entries : Start → List LogEntry → List LogEntry
sound_entries start [] = []
sound_entries start (entry ∷ later) =
    if is_none (entry_fault entry.kind start) then entry ∷ sound_entries (next entry.kind start) later else []

-- an entry's fault at its place, or else a later one
abbrev pub fault_or : Place → Option SortFault → Option (Place × SortFault) → Option (Place × SortFault)
fault_or at (Some fault) later = Some (at, fault)
fault_or at None later = later

-- the first unsound entry's fault, at that entry's place
abbrev pub sort_fault : Start → List LogEntry → Option (Place × SortFault)
sort_fault start [] = None
sort_fault start (entry ∷ later) = fault_or entry.at (entry_fault entry.kind start) (sort_fault (next entry.kind start) later)

-- a fault of the first kind, or else one of the second
abbrev pub sort_or : {F : Type 0} → (SortFault → F) → Option (Place × SortFault) → Option (Place × F) → Option (Place × F)
sort_or sorted (Some fault) ended = Some (fault.0, sorted fault.1)
sort_or sorted None ended = ended

-- the fault of a log: that of its first unsound entry, or else the one that ended its entries
abbrev pub log_fault : {F : Type 0} → (SortFault → F) → Start → List LogEntry → Option (Place × F) → Option (Place × F)
log_fault sorted start entries ended = sort_or sorted (sort_fault start entries) ended

-- what stands behind a log's sound entries is not read: its history, the newest first
abbrev pub sound_history : NodeLog → List LogEntry
sound_history log = reverse (sound_entries log.start log.entries)

-- where a log's reading ends
abbrev pub reached : NodeLog → Start
reached log = left_by log.start (sound_history log)

-- a list of entries of which each is sound behind those before it
abbrev pub AllSound : Start → List LogEntry → Type 0
AllSound start [] = Unit {0}
AllSound start (entry ∷ later) = (entry_fault entry.kind start ≡ None) × AllSound (next entry.kind start) later

-- behind sound entries the log ends, or an unsound one stands
abbrev pub EndsAt : Start → List LogEntry → Type 0
EndsAt start [] = Unit {0}
EndsAt start (entry ∷ later) = entry_fault entry.kind start ≡ None → ⊥

-- the entries are a front of the log, each is sound, and no longer front is
pub record IsLongestSoundFront (start : Start) (entries sound : List LogEntry) : Type 0 where
  pub rest : List LogEntry
  pub front : entries ≡ sound ++ rest
  pub sound_all : AllSound start sound
  pub longest : EndsAt (left_by start (reverse sound)) rest

-- law: the sound entries are the longest sound front
abbrev pub SoundIsLongest : Type 0
SoundIsLongest = (start : Start) (entries : List LogEntry) → IsLongestSoundFront start entries (sound_entries start entries)

-- the numbers of a log's entries stay below 2^63
abbrev pub IsCounted : NodeLog → Type 0
IsCounted log = log.start.entry + length log.entries < 2 ^ 63
