-- Those so far are whole.
use Rattle.std.proofs.Common.{take}
use Rattle.std.specs.List.{AllByRecursion}
use Rattle.cdc_dump_stage.specs.Disks.{disk_words}
use Rattle.cdc_windows.specs.Windows.{IsWholeOut}
use Rattle.cdc_windows.proofs.window.are_whole.Given as goal

abbrev pub invariant-loop-dump : goal.invariant-loop-dump
invariant-loop-dump g l =
    AllByRecursion (IsWholeOut (disk_words g.D.Disk.tells g.D.Disk.seen g.D.Disk.synced g.D.Disk.pending g.D.Disk.may_leave g.D.Disk.moment g.D.Disk.left_since g.D.Disk.faults)) (take l.dump-index l.dumps)
