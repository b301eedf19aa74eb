-- The sources so far, followed by those of the jobs that are left.
use Rattle.std.proofs.Common.{◌≡◌, ◌+◌, ◌≤◌, ◌++◌, length}
use Rattle.std.specs.Prelude.{vec_capacity}
use Rattle.cdc_headline.specs.Running.{sources_of}
use Rattle.cdc_pass.proofs.jobs.give_sources.Given as goal

abbrev pub invariant-loop-jobs : goal.invariant-loop-jobs
invariant-loop-jobs g l = record {
  room : length l.sources.items + length l.jobs.items ≤ vec_capacity l.sources;
  all : l.sources.items ++ sources_of l.jobs.items ≡ l.fn.sources.items ++ sources_of l.fn.jobs.items;
}

abbrev pub decreases-loop-jobs : goal.decreases-loop-jobs
decreases-loop-jobs g l = length l.jobs.items
