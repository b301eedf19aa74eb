use Rattle.cdc_event.specs.View.{event_viewed}
use Rattle.cdc_group.specs.Taking.{taken_event}
use Rattle.cdc_group.proofs.Taken.{answers}
use Rattle.cdc_group.proofs.grouper.Grouper.take_view.Goals as goal

pub returns-clause-answer : goal.returns-clause-answer
returns-clause-answer c =
    answers c.one_event_more.ensures c.fitting_events_are_read.ensures c.misfits_are_told.ensures c.args.at.file
    (taken_event c.args.at c.args.end c.args.checksum (event_viewed c.args.view.now)) c.args.self.now c.take_seen.new.self c.take_seen.result c.take_seen.ensures
