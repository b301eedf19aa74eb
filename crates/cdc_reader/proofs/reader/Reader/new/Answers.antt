use Rattle.std.proofs.Common.{refl, arith}
use Rattle.cdc_base.specs.Key.{first_key}
use Rattle.cdc_model.specs.Restart.{first_point, start_at}
use Rattle.cdc_reader.proofs.Begun.{begun}
use Rattle.cdc_reader.proofs.reader.Reader.new.Goals as goal

pub returns : goal.returns
returns c = record {
  reads = λ tells files.
      begun tells files _ record { last = first_key; from = first_point; node = c.args.node } c.in_ok-resumed.ensures.place.0 c.in_ok-resumed.ensures.place.1
      c.in_ok-resumed.ensures.follows c.new.ensures.holds c.new.ensures.sound (c.feed_begins.ensures first_key (start_at first_point) c.args.node) (omega arith) refl refl refl;
  goes_on = refl;
  place = c.in_ok-resumed.ensures.place.0;
  known = c.new.ensures.known;
}
