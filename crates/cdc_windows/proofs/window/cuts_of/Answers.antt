-- One point more.
use Rattle.std.proofs.Common.{sym, subst, take, ◌+◌, Option}
use Rattle.std.specs.Prelude.{IfSome}
use Rattle.std.specs.List.{AllZip}
use Rattle.cdc_model.specs.Restart.{RestartPoint}
use Rattle.cdc_windows.proofs.MorePairs.{zip_more}
use Rattle.cdc_windows.proofs.window.cuts_of.Goals as goal

pub loop-node-preserved : goal.loop-node-preserved
loop-node-preserved g c =
    subst (λ cuts. AllZip (λ node cut. g.N.NodePart.rereading.may_restart node c.args.last.now cut) (take (c.loop-node.node-index + 1) c.args.nodes.now) cuts) (sym c.in_ok-push-in-Some.ensures.ok)
    (zip_more (λ node cut. g.N.NodePart.rereading.may_restart node c.args.last.now cut) c.args.nodes.now c.loop-node.cuts c.loop-node.node-index c.node-item.result c.in-Some.cut c.loop-node-test.true c.node-item.is
    c.loop-node.invariant (subst (λ (point : Option RestartPoint). IfSome point (g.N.NodePart.rereading.may_restart c.node-item.result c.args.last.now)) c.in-Some.is c.in_ok-cut.ensures.point))
