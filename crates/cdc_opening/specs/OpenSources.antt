-- What the opening of sources finds.
use Rattle.std.specs.Prelude.{◌≡◌, ℕ, ◌-◌, ◌<◌, ◌≤◌, ◌⊎◌, min, ◌==◌, if◌then◌else◌, List, length, take, slice_get, Option, Some}
use Rattle.std.specs.List.{AllZip}
use Rattle.cdc_base.specs.declared.place.Place.{Place}
use Rattle.cdc_outside.specs.Source.{file_of, size_of}
use Rattle.cdc_model.specs.Restart.{RestartPoint}

-- a place of a log
abbrev pub place_at : ℕ → ℕ → Place
place_at file at = record { file = file; at = at }

-- where a log's file ends; where it isn't there, where the last one does; and file 0 where there is none
abbrev pub end_of_file : List (List ℕ) → ℕ → Place
end_of_file files file = let last = min file (length files) in if last == 0 then place_at 0 0 else place_at last (length (file_of files last))

-- a place lies past a log's end: its file isn't there, or is shorter
abbrev pub LiesPast : List (List ℕ) → Place → Type 0
LiesPast files place = (length files < place.file) ⊎ ((place.file ≤ length files) × (length (file_of files place.file) < place.at))

-- a log ends before a restart point that isn't its start
pub record EndsBeforePlace (files : List (List ℕ)) (cut : RestartPoint) : Type 0 where
  pub behind_start : 1 < cut.entry
  pub past : LiesPast files cut.place

-- a restart point is in a log by the numbers that its source tells of its files, or is the log's start
pub record CanReadFrom (sizes : List ℕ) (cut : RestartPoint) : Type 0 where
  pub file : 1 < cut.entry → cut.place.file ≤ length sizes
  pub at : 1 < cut.entry → cut.place.at ≤ size_of sizes cut.place.file

-- the first so many logs don't end before their restart points
abbrev pub NoneEndsBefore : ℕ → List (List (List ℕ)) → List RestartPoint → Type 0
NoneEndsBefore count logs cuts = AllZip (λ files cut. EndsBeforePlace files cut → ⊥) (take count logs) (take count cuts)

-- the log of this node, counted from 1, ends before its restart point, and none before it does
pub record IsLogBehind (logs : List (List (List ℕ))) (cuts : List RestartPoint) (node : ℕ) (kept given : Place) : Type 0 where
  pub first : 1 ≤ node
  pub before : NoneEndsBefore (node - 1) logs cuts
  pub files : List (List ℕ)
  pub log : slice_get logs (node - 1) ≡ Some files
  pub cut : RestartPoint
  pub point : slice_get cuts (node - 1) ≡ Some cut
  pub behind : EndsBeforePlace files cut
  pub kept_is : kept ≡ cut.place
  pub given_is : given ≡ end_of_file files cut.place.file

-- a source holds what it held and was asked for no bytes; its count of faults doesn't fall
pub record IsSourceKept {S : Type 0} (held : S → List (List ℕ)) (sizes : S → List ℕ) (lowest highest : S → Option Place) (faults : S → ℕ) (old new : S) : Type 0 where
  pub holds : held new ≡ held old
  pub sized : sizes new ≡ sizes old
  pub least : lowest new ≡ lowest old
  pub most : highest new ≡ highest old
  pub later : faults old ≤ faults new
