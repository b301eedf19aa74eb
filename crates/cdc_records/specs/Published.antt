-- The published files of an output.
use Rattle.std.specs.Prelude.{ℕ, ◌+◌, ◌-◌, ◌==◌, List, take, map, if◌then◌else◌}
use Rattle.cdc_outside.specs.declared.disk_file.DiskFile.TheVariants.{Log}
use Rattle.cdc_outside.specs.Disk.{Image}
use Rattle.cdc_model.specs.Transaction.{numbers_from}
use Rattle.cdc_records.specs.declared.front.Front.{Front}

-- what is published of the file of a number: of the Front's file its first bytes, of each before it all
abbrev pub published_file : Front → Image → ℕ → List ℕ
published_file f image number = if number == f.file then take f.length (image (Log number)) else image (Log number)

-- the numbers of the files that are published, from the first one kept to the Front's
abbrev pub published_numbers : Front → List ℕ
published_numbers f = numbers_from f.first (f.file + 1 - f.first)

-- the published files, each under its number
abbrev pub published : Front → Image → List (List ℕ)
published f image = map (published_file f image) (published_numbers f)
