-- A source that keeps what one file had.
use Rattle.std.specs.Prelude.{ℕ, Bool, List, [], ◌∷◌, Option}
use Rattle.cdc_base.specs.declared.place.Place.{Place}
use Rattle.cdc_files.specs.declared.held_source.HeldSource.{HeldSource}

-- the bytes that it keeps
abbrev pub bytes_kept : HeldSource → List ℕ
bytes_kept source = source.bytes.items

-- whether it keeps a failure instead
abbrev pub keeps_failure : HeldSource → Bool
keeps_failure source = source.fails

-- its one file
abbrev pub one_held_file : HeldSource → List (List ℕ)
one_held_file source = bytes_kept source ∷ []

-- the least place that was asked for
abbrev pub held_lowest : HeldSource → Option Place
held_lowest source = source.lowest

-- the greatest place that was asked for
abbrev pub held_highest : HeldSource → Option Place
held_highest source = source.highest

-- how many calls failed
abbrev pub held_faults : HeldSource → ℕ
held_faults source = source.faults
