-- A dumper as a plain record.
use Rattle.cdc_dumper.specs.declared.dumper.Dumper.TheInside.{Inside}
use Rattle.cdc_dumper.specs.State.{DumperState, IsShaped}

-- a dumper as a record
abbrev pub dumper_seen : Inside → DumperState
dumper_seen d = record { cell = d.cell; published = d.published; appended = d.appended; failed = d.failed }

-- what is true of each dumper
abbrev pub IsKeptDumper : Inside → Type 0
IsKeptDumper d = IsShaped (dumper_seen d)
