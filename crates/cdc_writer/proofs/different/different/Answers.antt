use Rattle.std.proofs.Common.{ap, ◌∙◌}
use Rattle.cdc_model.specs.Print.{distinct, statements_of}
use Rattle.cdc_writer.proofs.StatementSets.{none_kept, one_kept, front_all}
use Rattle.cdc_writer.proofs.different.different.Goals as goal

pub loop-branch-init : goal.loop-branch-init
loop-branch-init c = none_kept _ c.new-statements.ensures.empty

pub loop-branch-preserved : goal.loop-branch-preserved
loop-branch-preserved c =
    one_kept _ c.args.branches.now c.loop-branch.branch-index c.branch-item.result c.loop-branch-test.true c.branch-item.is
    c.loop-branch.invariant c.in_ok-add_statement.ensures.ok c.in_ok-add_statement.ensures.short

pub returns-clause-statements : goal.returns-clause-statements
returns-clause-statements c =
    c.loop-branch.invariant.statements ∙ ap (λ front. distinct (statements_of front)) (front_all c.args.branches.now c.loop-branch.branch-index c.loop-branch-test.false)

pub returns-clause-short : goal.returns-clause-short
returns-clause-short c = c.loop-branch.invariant.short
