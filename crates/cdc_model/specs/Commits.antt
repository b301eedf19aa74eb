-- Which branch a sound entry commits, by what stands before it in its log.
use Rattle.std.specs.Prelude.{◌≡◌, ◌≤◌, ℕ, ◌+◌, List, [], ◌∷◌, ◌++◌, length, None}
use Rattle.std.specs.List.{AllByRecursion}
use Rattle.cdc_base.specs.declared.key.Key.{Key}
use Rattle.cdc_base.specs.declared.key.Key.TheVariants.{Shared, Plain as PlainKey}
use Rattle.cdc_base.specs.declared.xid.Xid.{Xid}
use Rattle.cdc_model.specs.declared.entry.EntryKind.{EntryKind}
use Rattle.cdc_model.specs.declared.entry.EntryKind.TheVariants.{Prepare, OnePhase, Commit, Rollback, Plain, Beat}
use Rattle.cdc_model.specs.Records.{Row, LogEntry, OpenBranch, Start}
use Rattle.cdc_model.specs.Start.{left_by}
use Rattle.cdc_model.specs.Watermark.{high_water_mark}
use Rattle.cdc_model.specs.Soundness.{entry_fault}
use Rattle.cdc_model.specs.Branch.{Begun, branch_of, begun_branches, new_branches, committed_branches}
use Rattle.cdc_model.specs.Openings.{SayNothingOf, StandsOpen, AscendByXid}

-- a branch that began with one entry and was committed by another
abbrev pub begun_with : ℕ → Key → ℕ → ℕ → List Row → Begun
begun_with began key number seconds rows = (began, record { key = key; entry = number; seconds = seconds; rows = rows })

-- what an entry commits behind these: a OnePhase its own branch; a Commit the branch that stands open, with that Prepare's rows;
-- a Plain its rows under the high-water mark; every other entry none
abbrev pub IsCommitted : Start → ℕ → List LogEntry → EntryKind → List Begun → Type 0
IsCommitted start node earlier (Prepare xid rows) given = given ≡ []
IsCommitted start node earlier (OnePhase xid rows timestamp seconds) given =
    let number = start.entry + length earlier in given ≡ begun_with number (Shared timestamp xid.gtrid) number seconds rows ∷ []
IsCommitted start node earlier (Commit xid timestamp seconds) given =
    (opened : OpenBranch) × StandsOpen start earlier xid opened
    × (given ≡ begun_with opened.entry (Shared timestamp xid.gtrid) (start.entry + length earlier) seconds opened.rows ∷ [])
IsCommitted start node earlier (Rollback xid) given = given ≡ []
IsCommitted start node earlier (Plain rows seconds) given =
    let number = start.entry + length earlier in
    given ≡ begun_with number (PlainKey (high_water_mark start earlier) node number) number seconds rows ∷ []
IsCommitted start node earlier (Beat timestamp) given = given ≡ []

-- law: a sound Commit, each OnePhase and each Plain commit exactly one branch, and every other entry none
abbrev pub EachCommitGivesOneBranch : Type 0
EachCommitGivesOneBranch = (start : Start) (node : ℕ) (earlier : List LogEntry) (entry : LogEntry)
    → entry_fault entry.kind (left_by start earlier) ≡ None
    → (given : List Begun)
    × (begun_branches start node (entry ∷ earlier) ≡ begun_branches start node earlier ++ given)
    × IsCommitted start node earlier entry.kind given

-- law: one entry more adds to the committed branches what is new of the branch that it commits
abbrev pub OneEntryMore : Type 0
OneEntryMore = (last : Key) (start : Start) (node : ℕ) (earlier : List LogEntry) (entry : LogEntry)
    → committed_branches last start node (entry ∷ earlier)
    ≡ committed_branches last start node earlier ++ new_branches last start (branch_of node entry.kind (left_by start earlier))

-- a branch that was open before the starting point: its rows aren't read, and its Prepare has no number here
pub record IsHeld (branch : OpenBranch) : Type 0 where
  pub unnumbered : branch.entry ≡ 0
  pub rowless : branch.rows ≡ []

-- a starting point that is well formed: entries are numbered from 1, and the branches held open are in order of their xids, each once
pub record IsStart (start : Start) : Type 0 where
  pub numbered : 1 ≤ start.entry
  pub in_order : AscendByXid start.opened
  pub held : AllByRecursion IsHeld start.opened

-- law: the commit of a branch that was held open at the starting point gives no branch
abbrev pub HeldCommitGivesNone : Type 0
HeldCommitGivesNone = (last : Key) (start : Start) (node : ℕ) (earlier : List LogEntry) (xid : Xid) (timestamp seconds : ℕ)
    → IsStart start → SayNothingOf xid earlier
    → new_branches last start (branch_of node (Commit xid timestamp seconds) (left_by start earlier)) ≡ []
