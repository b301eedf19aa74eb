-- The next stage can read the next source.
use Rattle.std.proofs.Common.{rules, ◌<◌, arith, length}
use Rattle.std.proofs.lemmas.Bool.Decides.{nat_tests}
use Rattle.cdc_pass.specs.Starting.{BeginsBehind}
use Rattle.cdc_pass.proofs.Listing.{first_holds}
use Rattle.cdc_pass.proofs.jobs.node_jobs.Goals as goal

pub new-job-requires : goal.new-job-requires
new-job-requires g c =
    let some : 0 < length c.loop-stages.sources.items = first_of (search rules, omega arith, grind (arith, nat_tests)) in
    let more : 0 < length c.loop-stages.stages.items = let many = c.loop-stages.invariant.many in omega (arith, some, many) in
    (first_holds (BeginsBehind c.args.last.now) c.loop-stages.stages.items c.remove.result c.loop-stages.invariant.begun more c.remove.ensures.value).stands g.S.Source.tells (g.S.Source.held c.remove-in-loop-stages.result)
