-- Which branches are open behind a history, in the history's own words: the newest Prepare of each, in order.
use Rattle.std.specs.Prelude.{◌≡◌, ◌⊎◌, ◌↔◌, ◌<◌, ◌+◌, List, [], ◌∷◌, ◌++◌, length, Some, None}
use Rattle.std.specs.List.{AllByRecursion}
use Rattle.std.specs.Ordering.{nat_cmp}
use Rattle.std.specs.Cmp.Lexicographic.{slice_cmp}
use Rattle.std.specs.declared.cmp.Ordering.TheVariants.{Less}
use Rattle.cdc_base.specs.declared.xid.Xid.{Xid}
use Rattle.cdc_model.specs.declared.entry.EntryKind.TheVariants.{Prepare}
use Rattle.cdc_model.specs.Records.{Row, LogEntry, OpenBranch, Start}
use Rattle.cdc_model.specs.Start.{find_open, left_by}
use Rattle.cdc_model.specs.Watermark.{high_water_mark, verdict}

-- entries that neither prepare a branch of this xid nor end one
abbrev pub SayNothingOf : Xid → List LogEntry → Type 0
SayNothingOf xid entries = AllByRecursion (λ (entry : LogEntry). verdict xid entry.kind ≡ None) entries

-- the branch that a Prepare behind these entries opens: its floor is the high-water mark before it, and its number counts on
abbrev pub branch_opened : Start → Xid → List Row → List LogEntry → OpenBranch
branch_opened start xid rows earlier = record {
  xid = xid;
  floor = high_water_mark start earlier;
  entry = start.entry + length earlier;
  rows = rows;
}

-- the newest entry of a history that prepares or ends a branch of this xid is a Prepare, and this is the branch that it opened
pub record IsNewestPrepare (start : Start) (history : List LogEntry) (xid : Xid) (branch : OpenBranch) : Type 0 where
  pub later : List LogEntry
  pub prepare : LogEntry
  pub earlier : List LogEntry
  pub rows : List Row
  pub in_order : history ≡ later ++ prepare ∷ earlier
  pub prepares : prepare.kind ≡ Prepare xid rows
  pub nothing_later : SayNothingOf xid later
  pub opened : branch ≡ branch_opened start xid rows earlier

-- a branch that stands open: its newest Prepare opened it, or it stood open before the history, which says nothing of it
abbrev pub StandsOpen : Start → List LogEntry → Xid → OpenBranch → Type 0
StandsOpen start history xid branch =
    IsNewestPrepare start history xid branch ⊎ (SayNothingOf xid history × (find_open xid start.opened ≡ Some branch))

-- law: the open branch of an xid is the one that its newest Prepare opened, with that Prepare's number, its rows and the mark before it
abbrev pub OpenIsNewestPrepare : Type 0
OpenIsNewestPrepare = (start : Start) (history : List LogEntry) (xid : Xid) (branch : OpenBranch)
    → (find_open xid (left_by start history).opened ≡ Some branch) ↔ StandsOpen start history xid branch

-- xids go by global id, then by qualifier, then by format
abbrev pub IsXidBelow : Xid → Xid → Type 0
IsXidBelow x y =
    (slice_cmp nat_cmp x.gtrid y.gtrid ≡ Less)
    ⊎ ((x.gtrid ≡ y.gtrid) × (slice_cmp nat_cmp x.bqual y.bqual ≡ Less))
    ⊎ ((x.gtrid ≡ y.gtrid) × (x.bqual ≡ y.bqual) × (x.format < y.format))

-- branches of ascending xids, each once
abbrev pub AscendByXid : List OpenBranch → Type 0
AscendByXid [] = Unit {0}
AscendByXid (branch ∷ others) =
    AllByRecursion (λ (other : OpenBranch). IsXidBelow branch.xid other.xid) others × AscendByXid others

-- law: open branches stay in order of their xids, each once, whatever entries come
abbrev pub OpenBranchesAscend : Type 0
OpenBranchesAscend = (start : Start) (history : List LogEntry) → AscendByXid start.opened → AscendByXid (left_by start history).opened
