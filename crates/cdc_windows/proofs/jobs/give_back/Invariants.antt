-- The disks so far, followed by those of the jobs that are left.
use Rattle.std.proofs.Common.{◌≡◌, ◌+◌, ◌≤◌, ◌++◌, length}
use Rattle.std.specs.Prelude.{vec_capacity}
use Rattle.cdc_windows.specs.Windows.{disks_of}
use Rattle.cdc_windows.proofs.jobs.give_back.Given as goal

abbrev pub invariant-loop-jobs : goal.invariant-loop-jobs
invariant-loop-jobs g l = record {
  room : length l.outs.items + length l.jobs.items ≤ vec_capacity l.outs;
  all : l.outs.items ++ disks_of l.jobs.items ≡ l.fn.outs.items ++ disks_of l.fn.jobs.items;
}

abbrev pub decreases-loop-jobs : goal.decreases-loop-jobs
decreases-loop-jobs g l = length l.jobs.items
