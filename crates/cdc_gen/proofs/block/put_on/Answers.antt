use Rattle.std.proofs.Common.{◌≡◌, ◌≤◌, ◌-◌, get_or, ap, ◌∙◌, arith}
use Rattle.std.proofs.lemmas.Result.{on_ok_weaker}
use Rattle.cdc_gen.specs.Head.{log_head}
use Rattle.cdc_gen.specs.Logs.{with_steps}
use Rattle.cdc_gen.proofs.Put.{log_there, put_into, has_room}
use Rattle.cdc_gen.proofs.Steps.{growing_length}
use Rattle.cdc_gen.proofs.block.put_on.Goals as goal

pub returns-clause-ok : goal.returns-clause-ok
returns-clause-ok c nodes steps few same =
    let node = c.args.step.now.node in
    let log = c.index_mut.result.now in
    let long = growing_length nodes steps c.args.logs.now.items same in
    let last : node ≤ nodes = omega (arith, long, c.requires.last) in
    let is : log ≡ with_steps node log_head steps =
    c.index_mut.ensures.value ∙ ap (λ logs. get_or logs (node - 1) log) same ∙ log_there nodes steps node log c.requires.first last in
    on_ok_weaker _ (put_into nodes steps c.args.step.now c.args.logs.now.items log c.put_step.new.log same c.requires.first last is)
    (c.put_step.ensures (has_room node log steps few is))
