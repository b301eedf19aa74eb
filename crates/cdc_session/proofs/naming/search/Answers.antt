use Rattle.std.proofs.Common.{sym, ◌∙◌, arith}
use Rattle.cdc_session.proofs.Names.{named_later}
use Rattle.cdc_session.proofs.naming.search.Goals as goal

pub loop-number-preserved : goal.loop-number-preserved
loop-number-preserved c =
    let inv = c.loop-number.invariant in
    record {
      kept = omega (arith, inv.kept);
      left = λ image.
          inv.left image
          ∙ named_later c.args.front.now image c.loop-number.number c.args.name.now c.loop-number-test.true (sym c.in_ok-is_named.ensures ∙ c.if-branch.false);
    }
