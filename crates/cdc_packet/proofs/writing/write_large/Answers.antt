use Rattle.std.proofs.Common.{◌++◌}
use Rattle.cdc_packet.proofs.Sending.{on_err, writes_first, writes_after}
use Rattle.cdc_packet.proofs.writing.write_large.Goals as goal

pub returns-in_err-write-clause-err : goal.returns-in_err-write-clause-err
returns-in_err-write-clause-err g c told =
    on_err _ _ (writes_first _ _ c.args.head (c.args.first.now ++ c.args.rest.now) (c.in_err-write.ensures.err told))

pub returns-in_err-write-2-clause-err : goal.returns-in_err-write-2-clause-err
returns-in_err-write-2-clause-err g c told =
    on_err _ _ (writes_after _ _ _ c.args.head (c.args.first.now ++ c.args.rest.now) (c.in_ok-write.ensures.ok told)
    (writes_first _ _ c.args.first.now c.args.rest.now (c.in_err-write-2.ensures.err told)))

pub returns-in_err-write-3-clause-err : goal.returns-in_err-write-3-clause-err
returns-in_err-write-3-clause-err g c told =
    on_err _ _ (writes_after _ _ _ c.args.head (c.args.first.now ++ c.args.rest.now) (c.in_ok-write.ensures.ok told)
    (writes_after _ _ _ c.args.first.now c.args.rest.now (c.in_ok-write-2.ensures.ok told) (c.in_err-write-3.ensures.err told)))
