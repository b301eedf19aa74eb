use Rattle.cdc_gen.proofs.writing.put_step.Goals as goal

pub returns-in-Prepare : goal.returns-in-Prepare
returns-in-Prepare c room = rw c.in-Prepare.is (c.put_prepare.ensures room)
