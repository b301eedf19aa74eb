use Rattle.cdc_print.proofs.Nodes.{held_kept, later_kept}
use Rattle.cdc_print.proofs.Stepping.{stepped}
use Rattle.cdc_print.proofs.printer.Printer.step.Goals as goal

pub returns-clause-runs : goal.returns-clause-runs
returns-clause-runs g c = λ befores running.
    stepped c.node_settled_in_order.ensures g.S.Source.tells g.S.Source.held g.S.Source.faults befores c.args.sources.now.items c.args.self.now c.args.self.now c.take.new.self
    c.args.index c.index_mut-2.result.now c.next-step.new.source c.index_mut.result.now c.next-step.new.self c.next-step.result running c.requires.within
    c.index_mut-2.ensures.value c.index_mut.ensures.value c.next-step.ensures.reads c.next-step.ensures.held (λ feeds merged. merged) c.take.ensures.merges c.take.ensures.nodes

pub returns-clause-later : goal.returns-clause-later
returns-clause-later g c =
    later_kept g.S.Source.faults c.args.sources.now.items c.args.index c.index_mut-2.result.now c.next-step.new.source c.requires.within c.index_mut-2.ensures.value
    c.next-step.ensures.later

pub returns-clause-held : goal.returns-clause-held
returns-clause-held g c =
    held_kept g.S.Source.held c.args.sources.now.items c.args.index c.index_mut-2.result.now c.next-step.new.source c.index_mut-2.ensures.value c.next-step.ensures.held
