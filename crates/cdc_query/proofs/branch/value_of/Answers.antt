use Rattle.std.proofs.Common.{arith, ◌∙◌, ap, ◌+◌, ◌*◌, ℕ}
use Rattle.cdc_query.proofs.Digits.{step}
use Rattle.cdc_query.proofs.branch.value_of.Goals as goal

pub overflow_mul-number : goal.overflow_mul-number
overflow_mul-number c =
    let s = step c.args.digits.now c.loop-digit.digit-index c.loop-digit.number c.requires c.loop-digit-test.true c.loop-digit.invariant in
    omega (arith, s.room)

pub overflow_sub-digit : goal.overflow_sub-digit
overflow_sub-digit c =
    (step c.args.digits.now c.loop-digit.digit-index c.loop-digit.number c.requires c.loop-digit-test.true c.loop-digit.invariant).low

pub overflow_add-number : goal.overflow_add-number
overflow_add-number c =
    let s = step c.args.digits.now c.loop-digit.digit-index c.loop-digit.number c.requires c.loop-digit-test.true c.loop-digit.invariant in
    omega (arith, s.room, c.from.ensures)

pub loop-digit-preserved : goal.loop-digit-preserved
loop-digit-preserved c =
    let s = step c.args.digits.now c.loop-digit.digit-index c.loop-digit.number c.requires c.loop-digit-test.true c.loop-digit.invariant in
    ap (λ (n : ℕ). c.loop-digit.number * 10 + n) c.from.ensures ∙ s.more
