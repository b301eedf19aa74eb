use Rattle.std.proofs.Common.{◌<◌, ◌≤◌, [], ◌∷◌, ◌++◌, length-append, ap, sym, ◌∙◌, arith}
use Rattle.std.proofs.lemmas.Result.{on_ok_weaker}
use Rattle.cdc_gen.specs.Script.{step_on}
use Rattle.cdc_gen.specs.Growing.{growing_logs}
use Rattle.cdc_gen.proofs.Steps.{growing_length, one_node, two_more}
use Rattle.cdc_gen.proofs.block.put_transaction.Goals as goal

pub returns-then-nodes-lt2-clause-ok : goal.returns-then-nodes-lt2-clause-ok
returns-then-nodes-lt2-clause-ok c nodes steps few same =
    let long = growing_length nodes steps c.args.logs.now.items same in
    let one = c.in_ok-put_on.ensures.ok nodes steps (omega arith) same in
    let alone : nodes < 2 = omega (arith, long, c.number_of-nodes.ensures, c.if-nodes-lt2.true) in
    one ∙ ap (λ more. growing_logs nodes (steps ++ more)) (sym (one_node nodes c.args.kind c.args.plan.now alone))

pub returns-clause-ok : goal.returns-clause-ok
returns-clause-ok c nodes steps few same =
    let long = growing_length nodes steps c.args.logs.now.items same in
    let first = step_on c.args.kind c.args.plan.now.number c.args.plan.now.first in
    let one = c.in_ok-put_on.ensures.ok nodes steps (omega arith) same in
    let grown = length-append steps (first ∷ []) in
    let two = c.put_on-2.ensures.ok nodes (steps ++ first ∷ []) (omega (arith, grown)) one in
    let both : 2 ≤ nodes = omega (arith, long, c.number_of-nodes.ensures, c.if-nodes-lt2.false) in
    on_ok_weaker _ (two_more nodes c.number_of-nodes.result c.args.kind c.args.plan.now steps c.put_on-2.new.logs.items both (c.number_of-nodes.ensures ∙ long)) two
