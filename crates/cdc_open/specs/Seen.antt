-- An open branch as contracts see it, and what is true of each.
use Rattle.std.specs.Prelude.{◌<◌, ◌≤◌, ◌^◌}
use Rattle.std.specs.List.{AllByRecursion}
use Rattle.cdc_model.specs.Row.{IsRow}
use Rattle.cdc_open.specs.declared.standing.Standing.TheInside.{Inside as InsideStanding}
use Rattle.cdc_open.specs.Standing.{Prepared}

-- an open branch as a record
abbrev pub standing_seen : InsideStanding → Prepared
standing_seen s = record { floor = s.floor; entry = s.entry; rows = s.rows; place = s.place; checksum = s.checksum }

-- its floor is below 2^63, its rows are events, and its setting is 0 or 1
pub record IsKeptStanding (s : InsideStanding) : Type 0 where
  pub floor : s.floor < 2 ^ 63
  pub rows : AllByRecursion IsRow s.rows
  pub setting : s.checksum ≤ 1
