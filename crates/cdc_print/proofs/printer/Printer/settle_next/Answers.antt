use Rattle.std.specs.Prelude.{Option}
use Rattle.std.proofs.Common.{subst}
use Rattle.cdc_model.specs.Records.{Transaction}
use Rattle.cdc_print.proofs.Settling.{Gives, gives_so, merged_next, merged_all}
use Rattle.cdc_print.proofs.printer.Printer.settle_next.Goals as goal

pub returns-in-Some-clause-more : goal.returns-in-Some-clause-more
returns-in-Some-clause-more g c = λ feeds merged yet.
    merged_next c.args.self.now.prints c.print.new.self.prints c.args.self.now.merger c.print.new.self.merger c.args.self.now.printing c.print.new.self.printing c.in-Some.txn feeds
    c.if-not-self.false
    (gives_so c.args.self.now.merger c.next.new.self c.print.new.self.merger c.in-Ok.answer c.in-Some.txn c.in-Some.is c.print.ensures.kept.1 c.in-Ok.ensures.gives)
    c.print.ensures.prints merged

pub returns-in-None-clause-all : goal.returns-in-None-clause-all
returns-in-None-clause-all g c = λ feeds merged yet.
    merged_all c.args.self.now.prints c.args.self.now.merger c.next.new.self c.args.self.now.printing feeds c.if-not-self.false
    (subst (λ (answer : Option Transaction). Gives c.args.self.now.merger c.next.new.self answer) c.in-None.is c.in-Ok.ensures.gives) merged
