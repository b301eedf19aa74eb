-- No output has lost anything; those so far are opened, those to come are as they were.
use Rattle.std.proofs.Common.{◌≡◌, ℕ, ◌<◌, ◌≤◌, length, get_or}
use Rattle.std.specs.List.{AllZip}
use Rattle.cdc_dumper.specs.State.{DumperState}
use Rattle.cdc_opening.specs.OpenOuts.{IsOutOpened, IsOutKept}
use Rattle.cdc_opening.proofs.outs.open_outs.Given as goal

abbrev pub invariant-loop-index : goal.invariant-loop-index
invariant-loop-index g l = record {
  long : length l.outs ≡ length l.fn.outs;
  many : length l.dumpers.items ≡ l.index;
  kept : AllZip (IsOutKept g.D.Disk.tells g.D.Disk.seen g.D.Disk.may_leave g.D.Disk.moment g.D.Disk.left_since g.D.Disk.faults) l.fn.outs l.outs;
  same : (k : ℕ) (d : g.row.D.Denot) → l.index ≤ k → get_or l.outs k d ≡ get_or l.fn.outs k d;
  opened : (k : ℕ) (d : g.row.D.Denot) (e : DumperState) (f : g.row.D.Denot) → k < l.index
      → IsOutOpened g.D.Disk.tells g.D.Disk.seen g.D.Disk.synced g.D.Disk.pending (get_or l.fn.outs k d) (get_or l.dumpers.items k e) (get_or l.outs k f);
}
