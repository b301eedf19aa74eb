-- The facts that entries, branches, transactions and units keep.
use Rattle.std.specs.Prelude.{◌≡◌, ◌+◌, ◌^◌, ◌<◌, ◌≤◌, IsTrue, length}
use Rattle.std.specs.List.{AllByRecursion}
use Rattle.cdc_base.specs.declared.key.Key.{Key}
use Rattle.cdc_base.specs.declared.key.Key.TheVariants.{Shared, Plain as PlainKey}
use Rattle.cdc_model.specs.declared.entry.EntryKind.{EntryKind}
use Rattle.cdc_model.specs.declared.entry.EntryKind.TheVariants.{Prepare, OnePhase, Commit, Rollback, Plain, Beat}
use Rattle.cdc_model.specs.declared.entry.Entry.TheInside.{Inside as InsideEntry}
use Rattle.cdc_model.specs.declared.branch.Branch.TheInside.{Inside as InsideBranch}
use Rattle.cdc_model.specs.declared.transaction.Txn.TheInside.{Inside as InsideTransaction}
use Rattle.cdc_model.specs.declared.opened.Opened.TheInside.{Inside as InsideOpened}
use Rattle.cdc_model.specs.declared.start.StartingPoint.TheInside.{Inside as InsideStart}
use Rattle.cdc_model.specs.declared.unit.Unit.TheInside.{Inside as InsideUnit}
pub use Rattle.cdc_model.specs.Row.{IsRow}
use Rattle.cdc_model.specs.Records.{LogEntry, CommittedBranch, Transaction, OpenBranch, Start, OutputUnit}
use Rattle.cdc_model.specs.Layout.{begins_file, next_file, next_place}

-- timestamps are below 2^63, and rows are events
abbrev pub IsKeptKind : EntryKind → Type 0
IsKeptKind (Prepare xid rows) = AllByRecursion IsRow rows
IsKeptKind (OnePhase xid rows timestamp seconds) = AllByRecursion IsRow rows × (timestamp < 2 ^ 63)
IsKeptKind (Commit xid timestamp seconds) = timestamp < 2 ^ 63
IsKeptKind (Rollback xid) = Unit {0}
IsKeptKind (Plain rows seconds) = AllByRecursion IsRow rows
IsKeptKind (Beat timestamp) = timestamp < 2 ^ 63

-- a key's timestamp is below 2^63, and its node is from 1 to 256
abbrev pub IsKeptKey : Key → Type 0
IsKeptKey (Shared timestamp gtrid) = timestamp < 2 ^ 63
IsKeptKey (PlainKey timestamp node entry) = (timestamp < 2 ^ 63) × (1 ≤ node) × (node ≤ 256)

-- an entry as a record
abbrev pub entry_seen : InsideEntry → LogEntry
entry_seen e = record { kind = e.kind; at = e.at; end = e.end; checksum = e.checksum }

-- what is true of each entry
pub record IsKeptEntry (e : InsideEntry) : Type 0 where
  pub kind : IsKeptKind e.kind
  pub setting : e.checksum ≤ 1

-- a committed branch as a record
abbrev pub branch_seen : InsideBranch → CommittedBranch
branch_seen b = record { key = b.key; entry = b.entry; seconds = b.seconds; rows = b.rows }

-- what is true of each committed branch
pub record IsKeptBranch (b : InsideBranch) : Type 0 where
  pub key : IsKeptKey b.key
  pub rows : AllByRecursion IsRow b.rows

-- a transaction as a record
abbrev pub transaction_seen : InsideTransaction → Transaction
transaction_seen t = record { number = t.number; key = t.key; seconds = t.seconds; branches = t.branches }

-- what is true of each transaction
abbrev pub IsKeptTransaction : InsideTransaction → Type 0
IsKeptTransaction t = IsKeptKey t.key

-- an open branch as a record
abbrev pub opened_seen : InsideOpened → OpenBranch
opened_seen o = record { xid = o.xid; floor = o.floor; entry = o.entry; rows = o.rows }

-- what is true of each open branch
pub record IsKeptOpened (o : InsideOpened) : Type 0 where
  pub floor : o.floor < 2 ^ 63
  pub rows : AllByRecursion IsRow o.rows

-- a starting point as a record
abbrev pub start_seen : InsideStart → Start
start_seen s = record { entry = s.entry; mark = s.mark; opened = s.opened }

-- what is true of each starting point
abbrev pub IsKeptStart : InsideStart → Type 0
IsKeptStart s = s.mark < 2 ^ 63

-- a unit as a record
abbrev pub unit_seen : InsideUnit → OutputUnit
unit_seen u = record { number = u.number; key = u.key; before = u.before; after = u.after; bytes = u.bytes }

-- a unit's bytes begin where the output stood and end where it then stands; a new file's begin with a head of 123 bytes
pub record IsKeptUnit (u : InsideUnit) : Type 0 where
  pub key : IsKeptKey u.key
  pub file : u.after.file ≡ next_file u.before
  pub end : u.after.length ≡ next_place u.before + length u.bytes
  pub head : IsTrue (begins_file u.before) → 123 ≤ length u.bytes
