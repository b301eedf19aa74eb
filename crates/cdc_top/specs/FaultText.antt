-- The text of a node's fault and of its place, as a line has them.
use Rattle.std.specs.Prelude.{ℕ, List, ◌++◌, codes, decimal}
use Rattle.hex.specs.Hex.{encode_lower}
use Rattle.cdc_base.specs.declared.place.Place.{Place}
use Rattle.cdc_base.specs.declared.xid.Xid.{Xid}
use Rattle.cdc_event.specs.declared.fault.EventFault.{EventFault}
use Rattle.cdc_event.specs.declared.fault.EventFault.TheVariants.{ShortLength, TooLong, BadBody, Compressed, BadFormat, Partial}
use Rattle.cdc_event.specs.declared.fault.FileFault.{FileFault}
use Rattle.cdc_event.specs.declared.fault.FileFault.TheVariants.{BadMagic, Event}
use Rattle.cdc_model.specs.declared.fault.GroupFault.{GroupFault}
use Rattle.cdc_model.specs.declared.fault.GroupFault.TheVariants.{NoTimestamp, BadTimestamp, Statement, XidDiffers, RowsOutside, OutOfPlace, BadDdl}
use Rattle.cdc_model.specs.declared.fault.SortFault.{SortFault}
use Rattle.cdc_model.specs.declared.fault.SortFault.TheVariants.{DoublePrepare, UnknownBranch, Undercut}
use Rattle.cdc_model.specs.declared.fault.NodeFault.{NodeFault}
use Rattle.cdc_model.specs.declared.fault.NodeFault.TheVariants.{File, Group, Sort}

-- a place: its file, a colon, its byte
abbrev pub shown_place : Place → List ℕ
shown_place place = decimal place.file ++ codes ":" ++ decimal place.at

-- the name of a branch: its ids in lower-case hexadecimal digits and its format, with commas between them
abbrev pub shown_xid : Xid → List ℕ
shown_xid xid = encode_lower xid.gtrid ++ codes "," ++ encode_lower xid.bqual ++ codes "," ++ decimal xid.format

-- what is wrong with an event's bytes: the fault's name, and its value behind a blank
abbrev pub shown_event_fault : EventFault → List ℕ
shown_event_fault (ShortLength length) = codes "ShortLength " ++ decimal length
shown_event_fault (TooLong length) = codes "TooLong " ++ decimal length
shown_event_fault (BadBody kind) = codes "BadBody " ++ decimal kind
shown_event_fault Compressed = codes "Compressed"
shown_event_fault BadFormat = codes "BadFormat"
shown_event_fault Partial = codes "Partial"

-- what is wrong with a file's bytes
abbrev pub shown_file_fault : FileFault → List ℕ
shown_file_fault BadMagic = codes "BadMagic"
shown_file_fault (Event fault) = shown_event_fault fault

-- why an event doesn't fit: the fault's name
abbrev pub shown_group_fault : GroupFault → List ℕ
shown_group_fault NoTimestamp = codes "NoTimestamp"
shown_group_fault BadTimestamp = codes "BadTimestamp"
shown_group_fault Statement = codes "Statement"
shown_group_fault XidDiffers = codes "XidDiffers"
shown_group_fault RowsOutside = codes "RowsOutside"
shown_group_fault OutOfPlace = codes "OutOfPlace"
shown_group_fault BadDdl = codes "BadDdl"

-- why an entry isn't sound: the fault's name, and the branch, or the timestamp and the floor
abbrev pub shown_sort_fault : SortFault → List ℕ
shown_sort_fault (DoublePrepare xid) = codes "DoublePrepare " ++ shown_xid xid
shown_sort_fault (UnknownBranch xid) = codes "UnknownBranch " ++ shown_xid xid
shown_sort_fault (Undercut timestamp floor) = codes "Undercut " ++ decimal timestamp ++ codes " " ++ decimal floor

-- a node's fault
abbrev pub shown_fault : NodeFault → List ℕ
shown_fault (File fault) = shown_file_fault fault
shown_fault (Group fault) = shown_group_fault fault
shown_fault (Sort fault) = shown_sort_fault fault
