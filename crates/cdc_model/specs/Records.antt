-- The plain records that the definitions speak of. Each type of `src/` is seen as one of them.
use Rattle.std.specs.Prelude.{ℕ, List}
use Rattle.cdc_base.specs.declared.place.Place.{Place}
use Rattle.cdc_base.specs.declared.key.Key.{Key}
use Rattle.cdc_base.specs.declared.xid.Xid.{Xid}
use Rattle.cdc_model.specs.declared.entry.EntryKind.{EntryKind}
use Rattle.cdc_model.specs.declared.layout.Layout.{Layout}
pub use Rattle.cdc_model.specs.Row.{Row}

-- an entry of a node's log
pub record LogEntry : Type 0 where
  pub kind : EntryKind
  pub at : Place
  pub end : Place
  pub checksum : ℕ

-- a committed branch: its key, the number of the entry that committed it, that entry's seconds, its rows
pub record CommittedBranch : Type 0 where
  pub key : Key
  pub entry : ℕ
  pub seconds : ℕ
  pub rows : List Row

-- a transaction of the global order
pub record Transaction : Type 0 where
  pub number : ℕ
  pub key : Key
  pub seconds : ℕ
  pub branches : List CommittedBranch

-- an open branch: its floor, and the number of its Prepare (0 where that stands before the starting point)
pub record OpenBranch : Type 0 where
  pub xid : Xid
  pub floor : ℕ
  pub entry : ℕ
  pub rows : List Row

-- where a node's reading stands: the next entry's number, the high-water mark, the open branches
pub record Start : Type 0 where
  pub entry : ℕ
  pub mark : ℕ
  pub opened : List OpenBranch

-- a unit: the run of bytes that one transaction appends to the output, and where the output stands before it and behind it
pub record OutputUnit : Type 0 where
  pub number : ℕ
  pub key : Key
  pub before : Layout
  pub after : Layout
  pub bytes : List ℕ
