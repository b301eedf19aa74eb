use Rattle.std.proofs.Common.{arith}
use Rattle.cdc_print.proofs.Settling.{merged_given}
use Rattle.cdc_print.proofs.printer.Printer.give.Goals as goal

pub returns-in-Ok-clause-merges : goal.returns-in-Ok-clause-merges
returns-in-Ok-clause-merges c = λ feeds merged can.
    merged_given c.args.self.now.prints c.args.self.now.merger c.give.new.self c.args.self.now.printing c.args.node c.args.branch feeds c.requires.first
    (omega (arith, c.requires.within, c.args.self.now.places)) c.in-Ok.ensures.given merged can
