use Rattle.std.proofs.Common.{subst, sym, ◌∙◌}
use Rattle.cdc_task.specs.Reading.{IsReadOf}
use Rattle.cdc_task.proofs.Loads.{no_point_there}
use Rattle.cdc_task.proofs.loading.kept_point.Goals as goal

pub returns-in-Ok-None-clause-answer : goal.returns-in-Ok-None-clause-answer
returns-in-Ok-None-clause-answer g c = λ told knows.
    no_point_there c.args.cell.now (g.D.Disk.seen c.args.disk.now) c.in-Some.slot c.number.result c.deref.result.now knows (sym c.in-Some.ensures) c.number.ensures
    (c.deref.ensures.value ∙ c.in_ok-payload.ensures.bytes told knows)
    (subst (IsReadOf c.number.result c.deref.result.now) c.in-Ok-None.field-0-is c.in-Ok-None.ensures.read)
