use Rattle.std.proofs.Common.{◌≡◌, IsTrue, length, map, take}
use Rattle.std.specs.List.{AllByRecursion, AllZip}
use Rattle.cdc_cell.specs.Reading.{IsLeftAlone}
use Rattle.cdc_dumper.specs.Opening.{IsFound, IsFrontOrNone}
use Rattle.cdc_list.specs.Listing.{AllLater}
use Rattle.cdc_list.proofs.listing.look_at_each.Given as goal

-- the outs so far have these Fronts
abbrev pub invariant-loop-index : goal.invariant-loop-index
invariant-loop-index g l = record {
  found : IsTrue g.D.Disk.tells → AllZip IsFound (take l.index (map g.D.Disk.seen l.fn.outs.items)) l.fronts;
  many : length l.fronts ≡ l.index;
  shaped : AllByRecursion IsFrontOrNone l.fronts;
  same_many : length l.outs.items ≡ length l.fn.outs.items;
  alone : IsTrue g.D.Disk.tells
      → AllZip (IsLeftAlone g.D.Disk.seen g.D.Disk.synced g.D.Disk.pending g.D.Disk.may_leave g.D.Disk.moment g.D.Disk.left_since) l.fn.outs.items l.outs.items;
  later : AllLater g.D.Disk.faults l.fn.outs.items l.outs.items;
}
