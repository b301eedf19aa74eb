use Rattle.std.proofs.Common.{refl, ap, ◌∙◌}
use Rattle.cdc_cutter.specs.Cutting.{Cutting}
use Rattle.cdc_cutter.proofs.Holding.{fed_more, on_ok, takes_file, takes_end}
use Rattle.cdc_cutter.proofs.cutter.Cutter.feed.Goals as goal

pub returns-in_default : goal.returns-in_default
returns-in_default c = record {
  fed = on_ok c.take.result c.take.ensures.ok (λ t. fed_more c.args.self.now.state c.args.piece.now c.args.self.now c.take.new.self refl t);
  file = takes_file c.take.result c.args.piece.now c.args.self.now c.take.new.self c.take.ensures.ok c.take.ensures.err;
  end = takes_end c.take.result c.args.piece.now c.args.self.now c.take.new.self c.take.ensures.ok c.take.ensures.err;
  faulty = λ fault e. absurd (c.in_default.not-Faulty fault (ap (λ (v : Cutting). v.state) c.self.view_is ∙ e));
  err = c.take.ensures.err;
}
