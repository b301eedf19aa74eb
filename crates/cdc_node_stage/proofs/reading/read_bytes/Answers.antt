use Rattle.std.proofs.Common.{ℕ, Option, sym, ap, subst, ◌∙◌, arith}
use Rattle.cdc_reader.specs.Asking.{bytes_in}
use Rattle.cdc_reader.specs.Standing.{StepsTo}
use Rattle.cdc_node_stage.specs.Preparing.{step_read}
use Rattle.cdc_node_stage.proofs.Steps.{read_steps, read_bytes_in}
use Rattle.cdc_node_stage.proofs.reading.read_bytes.Goals as goal

pub returns-clause-steps : goal.returns-clause-steps
returns-clause-steps g c = λ reading taken feed reads goes_on given all.
    subst (λ (o : Option ℕ). StepsTo g.S.Source.tells (g.S.Source.held c.args.source.now) c.fill-step.new.self reading taken feed (step_read o)) (sym c.count_in.ensures)
    (read_steps g.S.Source.tells (g.S.Source.held c.args.source.now) c.fill-step.new.self reading taken feed c.fill-step.result c.fill-step.ensures.quiet
    (c.fill-step.ensures.steps reading taken feed reads goes_on given all))

pub returns-clause-bytes : goal.returns-clause-bytes
returns-clause-bytes g c = λ told sized.
    let further = c.fill-step.ensures.bytes told sized in
    let same = ap (λ (o : Option ℕ). bytes_in (step_read o)) c.count_in.ensures ∙ read_bytes_in c.fill-step.result in
    omega (arith, further, same)
