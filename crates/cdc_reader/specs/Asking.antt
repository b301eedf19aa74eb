-- Which places of a log are asked for.
use Rattle.std.specs.Prelude.{◌≡◌, ◌<◌, ◌≤◌, ◌⊎◌, ◌+◌, ◌-◌, ℕ, zero, suc, List, [], ◌∷◌, length, Option}
use Rattle.cdc_base.specs.declared.place.Place.{Place}
use Rattle.cdc_outside.specs.Source.{lowered}
use Rattle.cdc_reader.specs.declared.step.Step.{Step}
use Rattle.cdc_reader.specs.declared.step.Step.TheVariants.{Branch, Bound, Read, End}

-- a place stands at another one or behind it, by file, then byte
abbrev pub IsFromOn : Place → Place → Type 0
IsFromOn start place = (start.file < place.file) ⊎ ((start.file ≡ place.file) × (start.at ≤ place.at))

-- nothing below a place was asked for: beside it, the least place asked for is the same as before
abbrev pub NothingBelow : Place → Option Place → Option Place → Type 0
NothingBelow start before now = lowered now start.file start.at ≡ lowered before start.file start.at

-- how many bytes the first so many files have
abbrev pub bytes_of_files : ℕ → List (List ℕ) → ℕ
bytes_of_files zero files = 0
bytes_of_files (suc count) [] = 0
bytes_of_files (suc count) (file ∷ files) = length file + bytes_of_files count files

-- how many bytes a log has up to a place
abbrev pub bytes_up_to : List (List ℕ) → Place → ℕ
bytes_up_to files place = bytes_of_files (place.file - 1) files + place.at

-- how many bytes a step read
abbrev pub bytes_in : Step → ℕ
bytes_in (Branch branch) = 0
bytes_in (Bound bound) = 0
bytes_in (Read count) = count
bytes_in End = 0
