use Rattle.cdc_print.proofs.Nodes.{readers_more}
use Rattle.cdc_print.proofs.printer.readers.Goals as goal

pub loop-node-preserved : goal.loop-node-preserved
loop-node-preserved c =
    let more = readers_more c.loop-node.node c.loop-node.states.items c.push.new.self.items c.in_ok-new.field-0 c.loop-node.invariant.many c.loop-node.invariant.new
    c.in_ok-new.ensures c.in_ok-push.ensures.items in
    record { many = more.many; new = more.new }
