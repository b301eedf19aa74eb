use Rattle.std.proofs.Common.{◌∙◌}
use Rattle.cdc_sorter.proofs.Between.{between_none, between_err}
use Rattle.cdc_sorter.proofs.sweep.is_between.Goals as goal

pub returns-then-ended-began : goal.returns-then-ended-began
returns-then-ended-began c = between_none c.args.numbers.now c.args.began c.args.ended c.if-ended-began.true

pub returns-in-Err : goal.returns-in-Err
returns-in-Err c =
    c.is_at_most.ensures ∙ between_err c.args.numbers.now c.args.began c.args.ended c.in-Err.index c.requires c.in-Err.ensures.position
