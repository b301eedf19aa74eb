use Rattle.std.proofs.Common.{subst}
use Rattle.cdc_event.specs.declared.event.Event.{Event}
use Rattle.cdc_group.specs.Taking.{taken_event, TakesEvent}
use Rattle.cdc_group.proofs.Taken.{answers}
use Rattle.cdc_group.proofs.grouper.Grouper.take.Goals as goal

pub returns-clause-answer : goal.returns-clause-answer
returns-clause-answer c =
    answers c.one_event_more.ensures c.fitting_events_are_read.ensures c.misfits_are_told.ensures c.args.at.file
    (taken_event c.args.at c.args.end c.args.checksum c.args.event.now) c.args.self.now c.take_seen.new.self c.take_seen.result
    (subst (λ (event : Event). TakesEvent c.args.at.file (taken_event c.args.at c.args.end c.args.checksum event) c.args.self.now c.take_seen.new.self c.take_seen.result) c.view.ensures c.take_seen.ensures)
