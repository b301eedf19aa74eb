-- Checkpoints: the bytes of their records in both versions, and which of them a record may have.
use Rattle.std.specs.Prelude.{◌≡◌, ℕ, ◌+◌, ◌≤◌, ◌<◌, ◌^◌, false, not, IsTrue, List, [], ◌∷◌, ◌++◌, length, map, sum_by, Option, None, Some, IfSome, ⊤}
use Rattle.std.specs.List.{AllByRecursion, flat_map}
use Rattle.cdc_base.specs.declared.xid.Xid.{Xid}
use Rattle.cdc_base.specs.Key.{timestamp_of, first_key}
use Rattle.cdc_event.specs.Number.{low_first}
use Rattle.cdc_outside.specs.Disk.{Image}
use Rattle.cdc_cell.specs.Record.{CellRecord, bad_slot, kept_record}
use Rattle.cdc_model.specs.declared.layout.Layout.{Layout}
use Rattle.cdc_model.specs.Openings.{AscendByXid}
use Rattle.cdc_model.specs.Restart.{RestartPoint, first_point, held_open}
use Rattle.cdc_records.specs.declared.checkpoint.Checkpoint.{Checkpoint}
use Rattle.cdc_records.specs.KeyBytes.{flag_byte, key_bytes, IsRecordKey}

-- ---- the bytes

-- an id or a qualifier behind its length
abbrev pub counted_id : List ℕ → List ℕ
counted_id id = length id ∷ id

-- a held branch: its floor, its format, its id and its qualifier
abbrev pub held_bytes : Xid × ℕ → List ℕ
held_bytes held = low_first 8 held.1 ++ (low_first 4 held.0.format ++ (counted_id held.0.gtrid ++ counted_id held.0.bqual))

-- held branches behind their number
abbrev pub held_list_bytes : List (Xid × ℕ) → List ℕ
held_list_bytes held = low_first 8 (length held) ++ flat_map held_bytes held

-- a node's point: entry, place, mark, checksum setting, and the held branches
abbrev pub cut_bytes : RestartPoint → List ℕ
cut_bytes point =
    low_first 8 point.entry ++ (low_first 4 point.place.file ++ (low_first 8 point.place.at ++ (low_first 8 point.mark
    ++ (point.checksum ∷ held_list_bytes point.held))))

-- the points of all nodes behind their number
abbrev pub cut_list_bytes : List RestartPoint → List ℕ
cut_list_bytes points = low_first 2 (length points) ++ flat_map cut_bytes points

-- where an output stands
abbrev pub layout_bytes : Layout → List ℕ
layout_bytes layout = low_first 8 layout.file ++ (low_first 8 layout.length ++ (flag_byte layout.closed ∷ []))

-- the version of a checkpoint's record: the second one names the rotation size
abbrev pub point_version : Option ℕ → ℕ
point_version None = 1
point_version (Some size) = 2

-- the rotation size, where it is named
abbrev pub rotation_bytes : Option ℕ → List ℕ
rotation_bytes None = []
rotation_bytes (Some size) = low_first 8 size

-- the bytes of a checkpoint's record
abbrev pub point_bytes : Checkpoint → List ℕ
point_bytes p =
    point_version p.rotation ∷ (low_first 8 p.count ++ (layout_bytes p.layout ++ (key_bytes p.last
    ++ (rotation_bytes p.rotation ++ cut_list_bytes p.nodes))))

-- the number of a checkpoint's record: it rises with each transaction and with each entry that isn't read again
abbrev pub point_number : Checkpoint → ℕ
point_number p = p.count + sum_by (λ (point : RestartPoint). point.entry) p.nodes

-- ---- parts that fit into their bytes

-- of a held branch
pub record FitsHeld (held : Xid × ℕ) : Type 0 where
  pub id : length held.0.gtrid ≤ 64
  pub qualifier : length held.0.bqual ≤ 64
  pub format : held.0.format < 2 ^ 32
  pub floor : held.1 < 2 ^ 63

-- of held branches
pub record FitsHeldList (held : List (Xid × ℕ)) : Type 0 where
  pub each : AllByRecursion FitsHeld held
  pub few : length held < 2 ^ 64

-- of a node's point
pub record FitsCut (point : RestartPoint) : Type 0 where
  pub entry : point.entry < 2 ^ 64
  pub file : point.place.file < 2 ^ 32
  pub at : point.place.at < 2 ^ 64
  pub mark : point.mark < 2 ^ 63
  pub setting : point.checksum ≤ 1
  pub held : FitsHeldList point.held

-- of the points of all nodes
pub record FitsCutList (points : List RestartPoint) : Type 0 where
  pub each : AllByRecursion FitsCut points
  pub few : length points < 2 ^ 16

-- of a checkpoint
pub record FitsPoint (p : Checkpoint) : Type 0 where
  pub count : p.count < 2 ^ 64
  pub file : p.layout.file < 2 ^ 64
  pub size : p.layout.length < 2 ^ 64
  pub key : IsRecordKey p.last
  pub rotation : IfSome p.rotation (λ size. size < 2 ^ 64)
  pub nodes : FitsCutList p.nodes

-- ---- what a record may say

-- no output
abbrev pub no_layout : Layout
no_layout = record { file = 0; length = 0; closed = false }

-- a node's point: entries and files are numbered from 1, the held branches stand in order of their xids, each once, and
-- entry 1 is the start of the log
pub record IsCut (point : RestartPoint) : Type 0 where
  pub numbered : 1 ≤ point.entry
  pub placed : 1 ≤ point.place.file
  pub in_order : AscendByXid (map held_open point.held)
  pub from_start : point.entry ≡ 1 → point ≡ first_point

-- nothing is published
pub record IsBeginning (p : Checkpoint) : Type 0 where
  pub layout : p.layout ≡ no_layout
  pub last : p.last ≡ first_key

-- a checkpoint that a record may have
pub record IsPoint (p : Checkpoint) : Type 0 where
  pub some : 1 ≤ length p.nodes
  pub most : length p.nodes ≤ 256
  pub cuts : AllByRecursion IsCut p.nodes
  pub timestamp : timestamp_of p.last < 2 ^ 63
  pub within : p.layout.file ≤ p.count
  pub left_open : IsTrue (not p.layout.closed) → p.layout.length < 2 ^ 30
  pub size : p.layout.length < 2 ^ 31
  pub begins : p.count ≡ 0 → IsBeginning p
  pub number : point_number p ≤ 2 ^ 61

-- ---- the record of an image

-- a slot's record is this checkpoint's
pub record IsPointRecord (r : CellRecord) (p : Checkpoint) : Type 0 where
  pub fits : FitsPoint p
  pub is : IsPoint p
  pub number : r.number ≡ point_number p
  pub payload : r.payload ≡ point_bytes p

-- no record and no checkpoint, or a record that is this checkpoint's
abbrev pub IsKeptPoint : Option CellRecord → Option Checkpoint → Type 0
IsKeptPoint None None = ⊤
IsKeptPoint None (Some p) = ⊥
IsKeptPoint (Some r) None = ⊥
IsKeptPoint (Some r) (Some p) = IsPointRecord r p

-- an image keeps this checkpoint, or none: no slot is bad, and the record is the checkpoint's, or absent
pub record HasPoint (image : Image) (point : Option Checkpoint) : Type 0 where
  pub cell : bad_slot image ≡ None
  pub kept : IsKeptPoint (kept_record image) point

-- law: bytes are one checkpoint's
abbrev pub BytesAreOnePoint : Type 0
BytesAreOnePoint = (p q : Checkpoint) → FitsPoint p → FitsPoint q → point_bytes p ≡ point_bytes q → p ≡ q

-- law: an image keeps one checkpoint at most
abbrev pub ImageHasOnePoint : Type 0
ImageHasOnePoint = (image : Image) (kept other : Option Checkpoint) → HasPoint image kept → HasPoint image other → kept ≡ other
