-- The stages and sources so far, followed by those that are left.
use Rattle.std.proofs.Common.{◌≡◌, ◌+◌, ◌≤◌, ◌++◌, length}
use Rattle.std.specs.Prelude.{vec_capacity}
use Rattle.std.specs.List.{AllByRecursion}
use Rattle.cdc_headline.specs.Running.{sources_of}
use Rattle.cdc_pass.specs.Starting.{BeginsBehind, stages_of}
use Rattle.cdc_pass.proofs.jobs.node_jobs.Given as goal

abbrev pub invariant-loop-stages : goal.invariant-loop-stages
invariant-loop-stages g l = record {
  many : length l.stages.items ≡ length l.sources.items;
  room : length l.jobs.items + length l.sources.items ≤ vec_capacity l.jobs;
  capacity : vec_capacity l.sources ≡ vec_capacity l.fn.sources;
  begun : AllByRecursion (BeginsBehind l.fn.last) l.stages.items;
  stages : stages_of l.jobs.items ++ l.stages.items ≡ l.fn.stages.items;
  sources : sources_of l.jobs.items ++ l.sources.items ≡ l.fn.sources.items;
}

abbrev pub decreases-loop-stages : goal.decreases-loop-stages
decreases-loop-stages g l = length l.sources.items
