-- The points of a node's log that programs hand on, seen as restart points.
use Rattle.std.specs.Prelude.{ℕ, List, ◌≤◌, ◌<◌, ◌^◌}
use Rattle.std.specs.List.{AllByRecursion}
use Rattle.cdc_base.specs.declared.xid.Xid.{Xid}
use Rattle.cdc_model.specs.declared.node_cut.NodeCut.TheInside.{Inside as InsideCut}
use Rattle.cdc_model.specs.Restart.{RestartPoint}

-- a point as a record
abbrev pub cut_seen : InsideCut → RestartPoint
cut_seen c = record { entry = c.entry; place = c.place; mark = c.mark; checksum = c.checksum; held = c.held }

-- floors below 2^63
abbrev pub AreFloors : List (Xid × ℕ) → Type 0
AreFloors held = AllByRecursion (λ (pair : Xid × ℕ). pair.1 < 2 ^ 63) held

-- its mark and its floors are below 2^63, and its setting is 0 or 1
pub record IsKeptCut (c : InsideCut) : Type 0 where
  pub mark : c.mark < 2 ^ 63
  pub setting : c.checksum ≤ 1
  pub floors : AreFloors c.held
