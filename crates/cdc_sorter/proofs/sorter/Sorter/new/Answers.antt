use Rattle.std.proofs.Common.{[], ap, ◌∙◌}
use Rattle.cdc_base.specs.declared.key.Key.{Key}
use Rattle.cdc_base.specs.Key.{first_key}
use Rattle.cdc_model.specs.Restart.{first_point}
use Rattle.cdc_sorter.specs.Trail.{Trail}
use Rattle.cdc_sorter.proofs.Steps.{begins}
use Rattle.cdc_sorter.proofs.sorter.Sorter.new.Goals as goal

pub returns-clause-holds : goal.returns-clause-holds
returns-clause-holds c =
    let trail_by : Key → Trail = λ (known : Key). record { place = first_point.place; checksum = first_point.checksum; ended = []; recent = []; known = known } in
    begins first_key c.args.node first_point c.first_key.result c.new.result c.new-2.result c.new-3.result
    c.first_key.ensures c.new.ensures c.new-2.ensures (c.new-3.ensures ∙ ap trail_by c.first_key-2.ensures)

pub returns-clause-known : goal.returns-clause-known
returns-clause-known c = ap (λ (t : Trail). t.known) c.new-3.ensures ∙ c.first_key-2.ensures
