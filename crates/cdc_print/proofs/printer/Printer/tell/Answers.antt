use Rattle.cdc_print.proofs.Settling.{merged_told}
use Rattle.cdc_print.proofs.printer.Printer.tell.Goals as goal

pub returns-then-self-clause-merges : goal.returns-then-self-clause-merges
returns-then-self-clause-merges c = λ feeds merged can.
    merged_told c.args.self.now.prints c.args.self.now.merger c.bound.new.self c.args.self.now.printing c.args.node c.args.bound feeds c.bound.ensures.merges merged can
