use Rattle.cdc_print.proofs.Stepping.{node_stepped}
use Rattle.cdc_print.proofs.node.NodeReader.next.Goals as goal

pub returns-clause-reads : goal.returns-clause-reads
returns-clause-reads g c =
    node_stepped g.S.Source.tells (g.S.Source.held c.args.source.now) (g.S.Source.faults c.args.source.now) (g.S.Source.faults c.next-step.new.source) c.args.self.now
    c.note.new.self c.next-step.new.self c.next-step.result c.note.ensures.reader c.next-step.ensures.steps c.next-step.ensures.failed c.next-step.ensures.later c.note.ensures.over
