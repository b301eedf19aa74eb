-- The Front of an output: how far it is published, and the bytes of its record in both versions.
use Rattle.std.specs.Prelude.{◌≡◌, ℕ, ◌+◌, ◌-◌, ◌≤◌, ◌<◌, ◌^◌, false, List, [], ◌∷◌, ◌++◌, Option, None, Some, MatchOption}
use Rattle.cdc_base.specs.declared.key.Key.{Key}
use Rattle.cdc_event.specs.Number.{low_first}
use Rattle.cdc_outside.specs.Disk.{Image}
use Rattle.cdc_cell.specs.Record.{CellRecord, bad_slot, kept_record}
use Rattle.cdc_model.specs.declared.layout.Layout.{Layout}
use Rattle.cdc_records.specs.declared.front.Front.{Front}
use Rattle.cdc_records.specs.KeyBytes.{flag_byte, key_bytes, IsRecordKey}

-- nothing is published
abbrev pub no_front : Front
no_front = record { count = 0; file = 0; length = 0; closed = false; first = 1; passed = 0; last = None }

-- where the output stands
abbrev pub front_layout : Front → Layout
front_layout f = record { file = f.file; length = f.length; closed = f.closed }

-- the number of a Front's record: it rises with each transaction and with each file that is dropped
abbrev pub front_number : Front → ℕ
front_number f = f.count + f.first - 1

-- what both versions begin with, behind the version: count, file, length and whether the file is closed
abbrev pub front_numbers : Front → List ℕ
front_numbers f = low_first 8 f.count ++ (low_first 8 f.file ++ (low_first 8 f.length ++ flag_byte f.closed ∷ []))

-- the record's bytes: 26 of the first version, where no last key is kept; else the second version, with the first file
-- that is kept, the transactions before it, and the last key
abbrev pub front_bytes_with : Option Key → Front → List ℕ
front_bytes_with None f = 1 ∷ front_numbers f
front_bytes_with (Some key) f = 2 ∷ (front_numbers f ++ (low_first 8 f.first ++ (low_first 8 f.passed ++ key_bytes key)))

-- the record's bytes
abbrev pub front_bytes : Front → List ℕ
front_bytes f = front_bytes_with f.last f

-- the first version has no key, keeps all files from the first on, and so has nothing before them
abbrev pub IsOfVersion : Option Key → Front → Type 0
IsOfVersion None f = (f.first ≡ 1) × (f.passed ≡ 0)
IsOfVersion (Some key) f = IsRecordKey key

-- the numbers of a Front that a record may have
pub record IsSoundFront (f : Front) : Type 0 where
  pub some : 1 ≤ f.count
  pub most : f.count ≤ 2 ^ 62
  pub file : 1 ≤ f.file
  pub within : f.file ≤ f.count
  pub kept : 1 ≤ f.first
  pub upto : f.first ≤ f.file
  pub below : f.passed < f.count
  pub headed : 123 ≤ f.length
  pub fits : f.length < 2 ^ 64
  pub version : IsOfVersion f.last f

-- a slot's record is this Front's
pub record IsFrontRecord (r : CellRecord) (f : Front) : Type 0 where
  pub sound : IsSoundFront f
  pub number : r.number ≡ front_number f
  pub payload : r.payload ≡ front_bytes f

-- an image has this Front: no slot is bad, and its record is the Front's, or there is none and nothing is published
pub record HasFront (image : Image) (f : Front) : Type 0 where
  pub cell : bad_slot image ≡ None
  pub kept : MatchOption (kept_record image) (f ≡ no_front) (λ r. IsFrontRecord r f)
