use Rattle.std.proofs.Common.{◌≡◌, ◌%◌, ◌∙◌, arith}
use Rattle.std.proofs.lemmas.Result.{on_ok_weaker}
use Rattle.cdc_gen.proofs.Steps.{growing_length, due_more}
use Rattle.cdc_gen.proofs.block.put_local_where_due.Goals as goal

pub returns-clause-ok : goal.returns-clause-ok
returns-clause-ok c nodes steps few same =
    let long = growing_length nodes steps c.args.logs.now.items same in
    let due : c.args.number % 100 ≡ 0 = omega arith in
    on_ok_weaker _ (due_more nodes c.number_of-nodes.result c.args.number steps c.put_on.new.logs.items (c.number_of-nodes.ensures ∙ long) due) (c.put_on.ensures.ok nodes steps few same)
