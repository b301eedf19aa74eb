-- The names under which a disk's files stand in its folder.
use Rattle.std.specs.Prelude.{ℕ, List, ◌++◌, length, drop, codes, decimal}
use Rattle.cdc_outside.specs.declared.disk_file.DiskFile.{DiskFile}
use Rattle.cdc_outside.specs.declared.disk_file.DiskFile.TheVariants.{SlotA, SlotB, Log}

-- a number in decimal digits, with zeros in front up to six
abbrev pub six_digits : ℕ → List ℕ
six_digits number = drop (length (decimal number)) (codes "000000") ++ decimal number

-- the name of a slot, or of a log
abbrev pub disk_file_name : DiskFile → List ℕ
disk_file_name SlotA = codes "slot.a"
disk_file_name SlotB = codes "slot.b"
disk_file_name (Log number) = codes "binlog." ++ six_digits number

-- and its path, behind that of the folder
abbrev pub path_in : List ℕ → DiskFile → List ℕ
path_in folder file = folder ++ codes "/" ++ disk_file_name file
