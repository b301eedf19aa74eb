-- Sources in memory.
use Rattle.std.specs.Prelude.{ℕ, List, Option}
use Rattle.cdc_base.specs.declared.place.Place.{Place}
use Rattle.cdc_memory.specs.Calls.{Calls}
use Rattle.cdc_memory.specs.declared.source.MemSource.{MemSource}
use Rattle.cdc_memory.specs.declared.source.PureSource.{PureSource}

-- the files that it holds
abbrev pub held_files : MemSource → List (List ℕ)
held_files source = source.files.files.items

-- the least place that was asked for
abbrev pub lowest_of : MemSource → Option Place
lowest_of source = source.files.lowest

-- the greatest place behind what was asked for
abbrev pub highest_of : MemSource → Option Place
highest_of source = source.files.highest

-- its calls so far
abbrev pub calls_of : MemSource → Calls
calls_of source = source.calls

-- the same of a source that never fails
abbrev pub pure_held_files : PureSource → List (List ℕ)
pure_held_files source = source.files.files.items

-- the least place that was asked of it
abbrev pub pure_lowest_of : PureSource → Option Place
pure_lowest_of source = source.files.lowest

-- the greatest place behind what was asked of it
abbrev pub pure_highest_of : PureSource → Option Place
pure_highest_of source = source.files.highest
