use Rattle.std.proofs.Common.{◌≡◌, List}
use Rattle.cdc_model.specs.Feed.{NodeFeed}
use Rattle.cdc_print.specs.Running.{IsMergedBy}
use Rattle.cdc_print.proofs.printer.Printer.settle.Given as goal

abbrev pub invariant-settled : goal.invariant-settled
invariant-settled g l = record {
  merged : (feeds : List NodeFeed) → IsMergedBy l.fn.self feeds → IsMergedBy l.self feeds;
  nodes : l.self.nodes.items ≡ l.fn.self.nodes.items;
}
