-- A sorter's parts as contracts see them, and what is true of each.
use Rattle.std.specs.Prelude.{◌<◌, ◌≤◌, ◌^◌}
use Rattle.cdc_sorter.specs.declared.position.Position.TheInside.{Inside as InsidePosition}
use Rattle.cdc_sorter.specs.declared.trail.Stand.TheInside.{Inside as InsideStand}
use Rattle.cdc_sorter.specs.declared.trail.Ended.TheInside.{Inside as InsideEnded}
use Rattle.cdc_sorter.specs.declared.trail.Recent.TheInside.{Inside as InsideRecent}
use Rattle.cdc_sorter.specs.declared.trail.Trail.TheInside.{Inside as InsideTrail}
use Rattle.cdc_sorter.specs.declared.sorter.Sorter.TheInside.{Inside as InsideSorter}
use Rattle.cdc_sorter.specs.Trail.{Stand, EndedBranch, RecentBranch, Trail, Standings}
use Rattle.cdc_sorter.specs.Sorting.{Sorting}

-- where a reading stands, as a record
abbrev pub position_seen : InsidePosition → Standings
position_seen p = record { entry = p.entry; mark = p.mark; opened = p.opened }

-- a mark is below 2^63
abbrev pub IsKeptPosition : InsidePosition → Type 0
IsKeptPosition p = p.mark < 2 ^ 63

-- a point as a record
abbrev pub stand_seen : InsideStand → Stand
stand_seen s = record { entry = s.entry; place = s.place; mark = s.mark; checksum = s.checksum }

-- its mark is below 2^63, and its setting is 0 or 1
pub record IsKeptStand (s : InsideStand) : Type 0 where
  pub mark : s.mark < 2 ^ 63
  pub setting : s.checksum ≤ 1

-- a branch that has ended, as a record
abbrev pub ended_seen : InsideEnded → EndedBranch
ended_seen e = record { xid = e.xid; floor = e.floor; entry = e.entry; ended = e.ended }

-- its floor is below 2^63
abbrev pub IsKeptEnded : InsideEnded → Type 0
IsKeptEnded e = e.floor < 2 ^ 63

-- a committed branch as a record
abbrev pub recent_seen : InsideRecent → RecentBranch
recent_seen r = record { key = r.key; stand = r.stand }

-- the way behind a sorter as a record
abbrev pub trail_seen : InsideTrail → Trail
trail_seen t = record { place = t.place; checksum = t.checksum; ended = t.ended.items; recent = t.recent.items; known = t.known }

-- a checksum setting is 0 or 1
abbrev pub IsKeptTrail : InsideTrail → Type 0
IsKeptTrail t = t.checksum ≤ 1

-- a sorter as a record
abbrev pub sorter_seen : InsideSorter → Sorting
sorter_seen s = record { last = s.last; node = s.node; first = s.first; here = s.here; waiting = s.waiting; trail = s.trail; stopped = s.stopped }

-- a sorter's node is from 1 to 256
abbrev pub IsKeptSorter : InsideSorter → Type 0
IsKeptSorter s = (1 ≤ s.node) × (s.node ≤ 256)
