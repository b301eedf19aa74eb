use Rattle.std.proofs.Common.{◌∷◌, [], length-append, arith}
use Rattle.std.proofs.lemmas.Result.{on_ok_weaker}
use Rattle.cdc_print.proofs.OneMore.{put_more, ended_more}
use Rattle.cdc_print.proofs.printing.Printing.print_next.Goals as goal

pub returns-in-Some : goal.returns-in-Some
returns-in-Some c = λ txns printed. record {
  counted = omega (arith, printed.counted, length-append txns (c.args.txn.now ∷ []));
  few = omega (arith, c.if-self-ge-MOST_TRANSACTIONS.false);
  shows = ended_more c.args.self.now c.in-Some.field-0 txns c.args.txn.now c.in-Some.is printed.shows;
}

pub returns : goal.returns
returns c =
    on_ok_weaker c.put.result
    (λ puts txns printed. record {
      counted = omega (arith, c.put.ensures.count, printed.counted, length-append txns (c.args.txn.now ∷ []));
      few = omega (arith, c.put.ensures.count, c.if-self-ge-MOST_TRANSACTIONS.false);
      shows = put_more _ c.put.new.self txns c.args.txn.now c.in_default.is puts printed.shows;
    })
    c.put.ensures.puts
