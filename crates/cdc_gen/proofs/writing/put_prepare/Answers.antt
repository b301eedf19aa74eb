use Rattle.std.proofs.Common.{arith}
use Rattle.std.proofs.lemmas.Result.{on_ok_weaker}
use Rattle.cdc_gen.proofs.Groups.{prepared}
use Rattle.cdc_gen.proofs.writing.put_prepare.Goals as goal

pub returns : goal.returns
returns c room =
    let first = c.in_ok-put_start.ensures.ok (omega arith) in
    let grown = c.in_ok-put_start.ensures.grown in
    let last = c.put_finish.ensures (omega (arith, grown)) in
    on_ok_weaker _ (prepared c.args.number c.args.node c.args.log.now c.put_start.new.log c.put_finish.new.log first) last
