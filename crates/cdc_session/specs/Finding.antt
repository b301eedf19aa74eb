-- Which published file a name asks for.
use Rattle.std.specs.Prelude.{◌≡◌, ℕ, ◌≤◌, List, [], Option, None, Some}
use Rattle.cdc_outside.specs.Disk.{Image}
use Rattle.cdc_records.specs.declared.front.Front.{Front}
use Rattle.cdc_session.specs.Shelf.{shelf_files, files_on}
use Rattle.cdc_session.specs.Dump.{asked_files}

-- the file from which on the files are asked for: its number is a published one's; none where there is no such file
abbrev pub FindsFile : Front → List ℕ → Option ℕ → Type 0
FindsFile f name None = (image : Image) → asked_files name (shelf_files f image) ≡ []
FindsFile f name (Some number) =
    (f.first ≤ number) × (number ≤ f.file) × ((image : Image) → asked_files name (shelf_files f image) ≡ files_on f image number)
