use Rattle.std.proofs.Common.{◌≡◌, ℕ, List, length, map}
use Rattle.cdc_print.specs.Outcome.{NoCountFell}
use Rattle.cdc_print.specs.Running.{IsRunning}
use Rattle.cdc_print.proofs.printer.Printer.read_all.Given as goal

abbrev pub invariant-turns : goal.invariant-turns
invariant-turns g l = record {
  runs : (befores : List ℕ) → IsRunning g.S.Source.tells g.S.Source.held g.S.Source.faults befores l.fn.sources.items l.fn.self
      → IsRunning g.S.Source.tells g.S.Source.held g.S.Source.faults befores l.sources.items l.self;
  many : length l.self.nodes.items ≡ length l.fn.self.nodes.items;
  later : NoCountFell (map g.S.Source.faults l.fn.sources.items) (map g.S.Source.faults l.sources.items);
  held : map g.S.Source.held l.sources.items ≡ map g.S.Source.held l.fn.sources.items;
}
