-- One event more, as the laws of the grammar state it.
use Rattle.std.proofs.Common.{inr, refl}
use Rattle.cdc_model.specs.Advance.{ReadingBegins, OneEventMore, MisplacedEventEnds}
use Rattle.cdc_model.proofs.GroupReading.{reads_nothing, reads_next, told_misfits}

pub reading_begins : ReadingBegins
reading_begins file = reads_nothing file

pub one_event_more : OneEventMore
one_event_more file events entries progress next reads fits = reads_next file events entries progress next reads fits

pub misplaced_event_ends : MisplacedEventEnds
misplaced_event_ends file events behind entries progress next fault ended reads told =
    inr (
      next,
      fault,
      record {
        front = events;
        behind = behind;
        progress = progress;
        events_in_order = refl;
        reads = reads;
        ceases = told_misfits file events entries progress next fault reads told;
        kind = told;
      },
      refl,
    )
