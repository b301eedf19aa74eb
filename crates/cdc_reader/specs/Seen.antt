-- A reader as contracts see it.
use Rattle.std.specs.Prelude.{◌≤◌}
use Rattle.cdc_reader.specs.declared.reader.Reader.TheInside.{Inside}
use Rattle.cdc_reader.specs.Standing.{ReaderState}

-- a reader as what it keeps
abbrev pub reader_seen : Inside → ReaderState
reader_seen reader = record { log = reader.log; sorter = reader.sorter; entries = reader.entries; told = reader.told; end = reader.end }

-- files are counted from 1
abbrev pub IsKeptReader : Inside → Type 0
IsKeptReader reader = 1 ≤ reader.log.place.file
