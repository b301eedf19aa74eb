use Rattle.std.proofs.Common.{length, map, ap, ◌∙◌}
use Rattle.cdc_print.proofs.Nodes.{fell_through}
use Rattle.cdc_print.proofs.Stepping.{settled_running}
use Rattle.cdc_print.proofs.printer.Printer.read_all.Goals as goal

pub turns-preserved : goal.turns-preserved
turns-preserved g c = record {
  runs = λ befores first.
      settled_running g.S.Source.tells g.S.Source.held g.S.Source.faults befores c.turn.new.sources.items c.turn.new.self c.settle.new.self c.settle.ensures.nodes c.settle.ensures.all
      (c.turn.ensures.runs befores (c.turns.invariant.runs befores first));
  many = ap length c.settle.ensures.nodes ∙ c.turn.ensures.many ∙ c.turns.invariant.many;
  later =
      fell_through (map g.S.Source.faults c.args.sources.now.items) (map g.S.Source.faults c.turns.sources.items) (map g.S.Source.faults c.turn.new.sources.items)
      c.turns.invariant.later c.turn.ensures.later;
  held = c.turn.ensures.held ∙ c.turns.invariant.held;
}
