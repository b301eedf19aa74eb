use Rattle.std.proofs.Common.{◌∙◌, [], refl, ap, subst}
use Rattle.cdc_model.specs.Restart.{RestartPoint, start_at}
use Rattle.cdc_reader.specs.Fed.{Follows}
use Rattle.cdc_reader.proofs.Begun.{begun}
use Rattle.cdc_reader.proofs.reader.Reader.resumed.Goals as goal

pub returns : goal.returns
returns c = record {
  reads = λ tells files.
      begun tells files _ record { last = c.args.last.now; from = c.args.cut.now; node = c.args.node }
      (c.in_ok-resumed.ensures.place.0 ∙ ap (λ (p : RestartPoint). p.place) c.cut.view_is)
      c.in_ok-resumed.ensures.place.1
      (subst (λ (p : RestartPoint). Follows c.in_ok-resumed.field-0.follower p.place.file p.place.at p.checksum [] []) c.cut.view_is c.in_ok-resumed.ensures.follows)
      c.in_ok-resumed-2.ensures.holds c.in_ok-resumed-2.ensures.sound
      (c.feed_begins.ensures c.args.last.now (start_at c.args.cut.now) c.args.node) c.requires.file refl (ap (λ (p : RestartPoint). p.entry) c.cut.view_is) refl;
  goes_on = refl;
  place = c.in_ok-resumed.ensures.place.0 ∙ ap (λ (p : RestartPoint). p.place) c.cut.view_is;
  known = c.in_ok-resumed-2.ensures.known;
}
