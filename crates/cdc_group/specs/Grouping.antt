-- Where a grouper stands, and where one event more leads it.
use Rattle.std.specs.Prelude.{ℕ, Option, Some, None}
use Rattle.cdc_model.specs.declared.entry.EntryKind.{EntryKind}
use Rattle.cdc_model.specs.declared.fault.GroupFault.{GroupFault}
use Rattle.cdc_model.specs.Records.{LogEntry}
use Rattle.cdc_model.specs.Sign.{Sign, SignedEvent}
use Rattle.cdc_model.specs.Group.{Progress, Out}
use Rattle.cdc_model.specs.Misfit.{misfit}
use Rattle.cdc_model.specs.Advance.{advance, made, entry_given}

-- where a grouper stands: the unfinished item has come so far; or it stopped at this fault
pub data Grouping : Type 0 where
  Goes : Progress → Grouping
  Stopped : GroupFault → Grouping

-- what is wrong with an event of this sign; after a fault that fault
abbrev pub fault_at : Grouping → Sign → Option GroupFault
fault_at (Goes progress) sign = misfit progress sign
fault_at (Stopped fault) sign = Some fault

-- where an event of this sign leads that fits
abbrev pub gone_on : Grouping → Sign → Grouping
gone_on (Goes progress) sign = Goes (advance progress sign)
gone_on (Stopped fault) sign = Stopped fault

-- what the entry says that an event of these seconds ends, or nothing
abbrev pub kind_ended : Grouping → ℕ → Sign → Option EntryKind
kind_ended (Goes progress) seconds sign = made progress seconds sign
kind_ended (Stopped fault) seconds sign = None

-- the entry that an event of file `file` ends, or none
abbrev pub entry_ended : ℕ → Grouping → SignedEvent → Option LogEntry
entry_ended file (Goes progress) event = entry_given file progress event
entry_ended file (Stopped fault) event = None

-- a file's end drops what is unfinished; a fault stays
abbrev pub ended_file : Grouping → Grouping
ended_file (Goes progress) = Goes Out
ended_file (Stopped fault) = Stopped fault
