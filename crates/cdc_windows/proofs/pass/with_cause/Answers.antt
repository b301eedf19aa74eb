-- One cause more, or none.
use Rattle.std.proofs.Common.{◌++◌, Bool, sym, subst, append-nil}
use Rattle.cdc_windows.specs.Causes.{also_cause, IsFirstPassCause}
use Rattle.cdc_windows.proofs.FirstCause.{first_more}
use Rattle.cdc_windows.proofs.pass.with_cause.Goals as goal

pub returns-then-also : goal.returns-then-also
returns-then-also c = λ causes so_far.
    subst (λ (also : Bool). IsFirstPassCause (causes ++ also_cause also c.args.cause) c.earlier.result) (sym c.if-also.true)
    (first_more causes c.args.first c.args.cause c.earlier.result so_far c.earlier.ensures.one c.earlier.ensures.first.0 c.earlier.ensures.first.1)

pub returns-else-also : goal.returns-else-also
returns-else-also c = λ causes so_far.
    subst (λ (also : Bool). IsFirstPassCause (causes ++ also_cause also c.args.cause) c.args.first) (sym c.if-also.false)
    (subst (λ list. IsFirstPassCause list c.args.first) (sym (append-nil causes)) so_far)
