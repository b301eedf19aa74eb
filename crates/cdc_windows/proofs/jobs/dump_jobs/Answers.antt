-- All were made.
use Rattle.std.proofs.Common.{◌≡◌, ◌∙◌, rules, arith, length}
use Rattle.std.proofs.lemmas.Bool.Decides.{nat_tests}
use Rattle.cdc_windows.specs.Jobs.{IsJobOf}
use Rattle.cdc_windows.proofs.Making.{none_left}
use Rattle.cdc_windows.proofs.jobs.dump_jobs.Goals as goal

pub returns-clause-jobs : goal.returns-clause-jobs
returns-clause-jobs g c =
    let none : length c.loop-start.outs.items ≡ 0 = first_of (search rules, omega arith, grind (arith, nat_tests)) in
    none_left (IsJobOf c.args.start) c.args.dumpers.now.items c.args.outs.now.items c.loop-start.dumpers.items c.loop-start.outs.items c.loop-start.jobs.items (c.loop-start.invariant.many ∙ none) none c.loop-start.invariant.left
