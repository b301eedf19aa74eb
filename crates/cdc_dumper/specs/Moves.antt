-- What a dumper's calls do to an output.
use Rattle.std.specs.Prelude.{◌≡◌, ◌≢◌, ℕ, ◌+◌, ◌-◌, ◌^◌, ◌≤◌, ◌<◌, ◌⊎◌, IsTrue, length, take, Some}
use Rattle.cdc_outside.specs.declared.disk_file.DiskFile.TheVariants.{Log}
use Rattle.cdc_outside.specs.Disk.{Image}
use Rattle.cdc_model.specs.Layout.{begins_file, next_file, next_place}
use Rattle.cdc_model.specs.Records.{OutputUnit}
use Rattle.cdc_model.specs.Unit.{appended_to}
use Rattle.cdc_records.specs.declared.front.Front.{Front}
use Rattle.cdc_records.specs.Front.{HasFront}
use Rattle.cdc_records.specs.Published.{published}
use Rattle.cdc_dumper.specs.Opening.{SameSlots}

-- the Front behind one unit more
abbrev pub front_with : Front → OutputUnit → Front
front_with g unit = record {
  count = unit.number;
  file = unit.after.file;
  length = unit.after.length;
  closed = unit.after.closed;
  first = g.first;
  passed = g.passed;
  last = Some unit.key;
}

-- a unit's bytes begin at a place of its file, and end where the unit says; a new file's have at least a head
pub record BeginsAt (unit : OutputUnit) (at : ℕ) : Type 0 where
  pub file : unit.after.file ≡ next_file unit.before
  pub start : at ≡ next_place unit.before
  pub end : unit.after.length ≡ at + length unit.bytes
  pub fits : unit.after.length < 2 ^ 64
  pub head : IsTrue (begins_file unit.before) → 123 ≤ length unit.bytes

-- of all log files only the one of a number changed
abbrev pub OtherLogs : ℕ → Image → Image → Type 0
OtherLogs file old image = (number : ℕ) → number ≢ file → image (Log number) ≡ old (Log number)

-- what was published before still is, with this Front; the one file behind the Front's may hold anything
pub record StillHas (f : Front) (old image : Image) : Type 0 where
  pub front : HasFront image f
  pub file : take f.length (image (Log f.file)) ≡ take f.length (old (Log f.file))
  pub others : (number : ℕ) → number ≢ f.file → number ≢ f.file + 1 → image (Log number) ≡ old (Log number)

-- the file behind the Front's is as it was
abbrev pub SameNext : Front → Image → Image → Type 0
SameNext f old image = image (Log (f.file + 1)) ≡ old (Log (f.file + 1))

-- the bytes of one unit more stand behind what was appended, and nothing else changed
pub record IsAppended (g : Front) (unit : OutputUnit) (old new : Image) : Type 0 where
  pub slots : SameSlots old new
  pub others : OtherLogs unit.after.file old new
  pub files : published (front_with g unit) new ≡ appended_to (unit.after.file - (g.first - 1)) unit.bytes (published g old)

-- the Front is now this one, and the log files are as they were
pub record HasCommitted (g : Front) (old image : Image) : Type 0 where
  pub front : HasFront image g
  pub logs : (number : ℕ) → image (Log number) ≡ old (Log number)

-- what was published before still is, or all that was appended is
abbrev pub IsBeforeOrCommitted : Front → Front → Image → Image → Type 0
IsBeforeOrCommitted f g old image = StillHas f old image ⊎ HasCommitted g old image

-- one unit more is published, and of all log files only its own changed
pub record HasNew (g : Front) (unit : OutputUnit) (old image : Image) : Type 0 where
  pub front : HasFront image (front_with g unit)
  pub others : OtherLogs unit.after.file old image
  pub files : published (front_with g unit) image ≡ appended_to (unit.after.file - (g.first - 1)) unit.bytes (published g old)

-- what was published before still is, or one unit more is
abbrev pub IsBeforeOrNew : Front → OutputUnit → Image → Image → Type 0
IsBeforeOrNew f unit old image = StillHas f old image ⊎ HasNew f unit old image
