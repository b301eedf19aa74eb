use Rattle.std.proofs.Common.{length, ap, sym, ◌∙◌, arith}
use Rattle.cdc_print.proofs.Nodes.{so_many_feeds}
use Rattle.cdc_print.proofs.printer.Printer.new.Goals as goal

pub invariant_of-result : goal.invariant_of-result
invariant_of-result c = record {
  some = omega (arith, c.in_ok-states.ensures.many, c.requires.some);
  few = omega (arith, c.in_ok-states.ensures.many, c.requires.few);
  places = ap length c.in_ok-merger.ensures.nodes.0 ∙ so_many_feeds c.args.nodes ∙ sym c.in_ok-states.ensures.many;
  room = c.in_ok-piece.ensures;
}
