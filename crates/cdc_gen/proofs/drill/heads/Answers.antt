use Rattle.std.proofs.Common.{◌++◌, ap, ◌∙◌}
use Rattle.cdc_gen.specs.Head.{log_head}
use Rattle.cdc_gen.proofs.Put.{one_more_head}
use Rattle.cdc_gen.proofs.drill.heads.Goals as goal

pub loop-node-preserved : goal.loop-node-preserved
loop-node-preserved c =
    let head = c.in_ok-put_head.ensures ∙ ap (λ front. front ++ log_head) c.new-log.ensures in
    c.in_ok-push.ensures.items ∙ one_more_head c.loop-node._node c.loop-node.logs.items c.put_head.new.log c.loop-node.invariant head
