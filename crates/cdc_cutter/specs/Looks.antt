-- What stands where an event may begin.
use Rattle.std.specs.Prelude.{◌≤◌, ℕ, Bool, List, length, take, drop}
use Rattle.cdc_event.specs.declared.header.Header.{Header}
use Rattle.cdc_event.specs.declared.event.Event.{Event}
use Rattle.cdc_event.specs.Length.{HasGoodLength, HasLengthFault}
use Rattle.cdc_event.specs.File.{BeginsWith, IsUnfinished, IsWhole}
use Rattle.cdc_cutter.specs.declared.seen.Look.{Look}
use Rattle.cdc_cutter.specs.declared.seen.Look.TheVariants.{Unfinished, Wrong, Whole}

-- what is seen at the front of these bytes, under a setting
abbrev pub Sees : ℕ → List ℕ → Look → Type 0
Sees checksum bytes Unfinished = IsUnfinished checksum bytes
Sees checksum bytes (Wrong fault) = (header : Header) × BeginsWith bytes header (drop 19 bytes) × HasLengthFault checksum header fault
Sees checksum bytes (Whole header) = BeginsWith bytes header (drop 19 bytes) × HasGoodLength checksum header × (header.length ≤ length bytes)

-- a whole event stands at the front of these bytes, of as many as its header counts
abbrev pub IsSeen : Bool → ℕ → List ℕ → Header → Event → Type 0
IsSeen first checksum bytes header event = IsWhole first checksum (take header.length bytes) event
