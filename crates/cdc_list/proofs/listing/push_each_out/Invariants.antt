use Rattle.std.proofs.Common.{◌≡◌, ◌++◌, IsTrue, length, map}
use Rattle.std.specs.List.{AllZip}
use Rattle.cdc_cell.specs.Reading.{IsLeftAlone}
use Rattle.cdc_list.specs.Listing.{AllLater}
use Rattle.cdc_list.proofs.Texts.{outs_left}
use Rattle.cdc_list.proofs.listing.push_each_out.Given as goal

-- what is left of the outs decides the rest
abbrev pub invariant-loop-index : goal.invariant-loop-index
invariant-loop-index g l = record {
  so_far : IsTrue g.D.Disk.tells → l.text ++ outs_left l.fronts (map g.D.Disk.seen l.fn.outs.items) l.index ≡ l.fn.text ++ outs_left l.fronts (map g.D.Disk.seen l.fn.outs.items) 0;
  same_many : length l.outs.items ≡ length l.fn.outs.items;
  alone : IsTrue g.D.Disk.tells
      → AllZip (IsLeftAlone g.D.Disk.seen g.D.Disk.synced g.D.Disk.pending g.D.Disk.may_leave g.D.Disk.moment g.D.Disk.left_since) l.fn.outs.items l.outs.items;
  later : AllLater g.D.Disk.faults l.fn.outs.items l.outs.items;
}
