use Rattle.cdc_print.proofs.Settling.{merged_same}
use Rattle.cdc_print.proofs.printer.Printer.take.Goals as goal

pub returns-in-Read-clause-merges : goal.returns-in-Read-clause-merges
returns-in-Read-clause-merges c = λ feeds merged can.
    merged_same c.args.self.now.prints c.args.self.now.merger c.args.self.now.printing c.args.node c.args.step feeds c.in-Read.is merged
