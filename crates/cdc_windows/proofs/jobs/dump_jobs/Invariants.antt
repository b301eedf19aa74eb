-- What is made of those that are left completes what was made.
use Rattle.std.proofs.Common.{◌≡◌, ◌+◌, ◌≤◌, List, ◌++◌, length}
use Rattle.std.specs.Prelude.{vec_capacity}
use Rattle.std.specs.List.{AllZip}
use Rattle.cdc_dump_stage.specs.Disks.{disk_words}
use Rattle.cdc_dump_stage.specs.Job.{StagedDisk}
use Rattle.cdc_opening.specs.Lists.{AllThree}
use Rattle.cdc_windows.specs.Jobs.{IsReadyOut, IsJobOf}
use Rattle.cdc_windows.proofs.jobs.dump_jobs.Given as goal

abbrev pub invariant-loop-start : goal.invariant-loop-start
invariant-loop-start g l = record {
  many : length l.dumpers.items ≡ length l.outs.items;
  room : length l.jobs.items + length l.outs.items ≤ vec_capacity l.jobs;
  capacity : vec_capacity l.outs ≡ vec_capacity l.fn.outs;
  ready : AllZip (IsReadyOut (disk_words g.D.Disk.tells g.D.Disk.seen g.D.Disk.synced g.D.Disk.pending g.D.Disk.may_leave g.D.Disk.moment g.D.Disk.left_since g.D.Disk.faults)) l.dumpers.items l.outs.items;
  left : (rest : List (StagedDisk g.row.D.Denot)) → AllThree (IsJobOf l.fn.start) l.dumpers.items l.outs.items rest → AllThree (IsJobOf l.fn.start) l.fn.dumpers.items l.fn.outs.items (l.jobs.items ++ rest);
}

abbrev pub decreases-loop-start : goal.decreases-loop-start
decreases-loop-start g l = length l.outs.items
