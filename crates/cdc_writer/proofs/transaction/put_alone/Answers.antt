use Rattle.cdc_writer.proofs.Laid.{on_ok, four_laid}
use Rattle.cdc_writer.proofs.transaction.put_alone.Goals as goal

pub returns-clause-ok : goal.returns-clause-ok
returns-clause-ok c =
    let rows = rw c.as_slice-branches.ensures at c.in_ok-mark.ensures.ok in
    let next = rw c.as_slice-branches.ensures at c.in_ok-mark.ensures.next in
    rw (← c.txn.view_is)
    (on_ok _ (four_laid _ _ _ _ _ _ _ _ _ _ _ _ _ _
    c.in_ok-rows.ensures.ok c.in_ok-rows.ensures.next rows next c.in_ok-end.ensures.ok c.in_ok-end.ensures.next)
    c.put_xid.ensures.ok)
