-- What a session finds of its output: the published files, each under its number, or why the output is refused.
use Rattle.std.specs.Prelude.{◌≡◌, ℕ, ◌≤◌, ◌+◌, ◌-◌, false, List, map, Result, Ok, Err}
use Rattle.cdc_outside.specs.Disk.{Image}
use Rattle.cdc_model.specs.Transaction.{numbers_from}
use Rattle.cdc_records.specs.declared.front.Front.{Front}
use Rattle.cdc_records.specs.Published.{published_file, published_numbers}
use Rattle.cdc_dumper.specs.declared.fault.OpenFault.{OpenFault}
use Rattle.cdc_dumper.specs.declared.fault.OpenFault.TheVariants.{DiskFault, BadCell, BadFront}
use Rattle.cdc_dumper.specs.Opening.{IsFound, IsOpenFault}
use Rattle.cdc_index.specs.Chain.{is_whole_file}

-- a published file: its number, and what is published of it
pub record PublishedFile : Type 0 where
  pub number : ℕ
  pub bytes : List ℕ

-- the published file of a number
abbrev pub file_at : Front → Image → ℕ → PublishedFile
file_at f image number = record { number = number; bytes = published_file f image number }

-- the published files, from the first one kept to the Front's
abbrev pub shelf_files : Front → Image → List PublishedFile
shelf_files f image = map (file_at f image) (published_numbers f)

-- the published files from a number on
abbrev pub files_on : Front → Image → ℕ → List PublishedFile
files_on f image number = map (file_at f image) (numbers_from number (f.file + 1 - number))

-- published files, or why there are none
abbrev pub Shelf : Type 0
Shelf = Result (List PublishedFile) OpenFault

-- what an image says of itself: a fault of the disk is no such fault
abbrev pub IsRefusedShelf : Image → OpenFault → Type 0
IsRefusedShelf image DiskFault = ⊥
IsRefusedShelf image (BadCell slot) = IsOpenFault image (BadCell slot)
IsRefusedShelf image (BadFront kept found) = IsOpenFault image (BadFront kept found)

-- the published files of an image with a Front
pub record HasShelf (image : Image) (files : List PublishedFile) : Type 0 where
  pub front : Front
  pub found : IsFound image front
  pub are : files ≡ shelf_files front image

-- the shelf of an image; it has at most one
abbrev pub IsShelf : Image → Shelf → Type 0
IsShelf image (Ok files) = HasShelf image files
IsShelf image (Err fault) = IsRefusedShelf image fault

-- what is published of some file isn't the magic and whole events to its end
pub record HasTornFile (image : Image) : Type 0 where
  pub front : Front
  pub found : IsFound image front
  pub number : ℕ
  pub kept : front.first ≤ number
  pub upto : number ≤ front.file
  pub torn : is_whole_file (published_file front image number) ≡ false
