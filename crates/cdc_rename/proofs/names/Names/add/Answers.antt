use Rattle.std.proofs.Common.{subst, refl}
use Rattle.cdc_rename.specs.Names.{IsOrdered}
use Rattle.cdc_rename.proofs.Rules.{is_there, is_not_there, adds_insert, ordered_insert}
use Rattle.cdc_rename.proofs.names.Names.add.Goals as goal

pub returns-in-Ok-clause-twice : goal.returns-in-Ok-clause-twice
returns-in-Ok-clause-twice c =
    let at = rw (c.bytes.ensures, c.bytes-2.ensures) at c.in-Ok.ensures.found in
    (λ _. is_there _ (subst IsOrdered c.self.view_is c.self.invariant) c.args.rename _ at, λ _. refl)

pub invariant_of-self-in-Err : goal.invariant_of-self-in-Err
invariant_of-self-in-Err c =
    let gap = rw (← c.self.view_is, c.bytes.ensures, c.bytes-2.ensures) at c.in-Err.ensures.absent in
    rw c.in_ok-insert-in-Err.ensures.items (ordered_insert _ c.args.rename _ c.self.invariant c.requires gap)

pub returns-in_ok-insert-in-Err-clause-ok : goal.returns-in_ok-insert-in-Err-clause-ok
returns-in_ok-insert-in-Err-clause-ok c =
    let gap = rw (c.bytes.ensures, c.bytes-2.ensures) at c.in-Err.ensures.absent in
    rw (c.in_ok-insert-in-Err.ensures.items, c.self.view_is) (adds_insert _ c.args.rename _ gap)

pub returns-in_ok-insert-in-Err-clause-twice : goal.returns-in_ok-insert-in-Err-clause-twice
returns-in_ok-insert-in-Err-clause-twice c =
    let gap = rw (c.bytes.ensures, c.bytes-2.ensures) at c.in-Err.ensures.absent in
    (λ e. absurd (cc), λ some. absurd (is_not_there _ c.args.rename _ gap some))

pub returns-in_err-insert-in-Err-clause-twice : goal.returns-in_err-insert-in-Err-clause-twice
returns-in_err-insert-in-Err-clause-twice c =
    let gap = rw (c.bytes.ensures, c.bytes-2.ensures) at c.in-Err.ensures.absent in
    (λ e. let clash = rw e at c.from_residual.ensures in absurd (cc clash.1), λ some. absurd (is_not_there _ c.args.rename _ gap some))
