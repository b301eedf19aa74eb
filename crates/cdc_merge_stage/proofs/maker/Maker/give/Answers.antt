use Rattle.std.proofs.Common.{◌-◌, ◌<◌, length, sym, ap, subst, arith}
use Rattle.std.proofs.lemmas.List.{length-map}
use Rattle.cdc_merger.specs.Merging.{feed_behind, last_key}
use Rattle.cdc_merge_stage.specs.Making.{MakerState, Makes}
use Rattle.cdc_merge_stage.proofs.Credits.{one_fed_at}
use Rattle.cdc_merge_stage.proofs.MakerSteps.{counted_more}
use Rattle.cdc_merge_stage.proofs.maker.Maker.give.Goals as goal

pub returns-clause-given : goal.returns-clause-given
returns-clause-given g c start feeds gave has in_time =
    let h = subst (λ (s : MakerState). Makes s start feeds gave) (sym c.self.view_is) has in
    let counted = h.counted in
    let many = ap (λ (s : MakerState). length s.merger.nodes) c.self.view_is in
    let within = c.requires.within in
    let sum = c.saturating_add-self-inside.ensures in
    let some : 0 < c.self.inside.room = (let never = c.if-self-eq0.false in omega (arith, never)) in
    let few = h.few (omega (arith, some)) in
    let nodes = ap length h.merges.waits in
    let feeds_many = length-map feeds (feed_behind (last_key start.last gave)) in
    let first = c.requires.first in
    let fed = one_fed_at c.args.branch (c.args.node - 1) feeds (omega (arith, nodes, feeds_many, many, within, first)) in
    record {
      merges = c.in_ok-give.ensures.given start.count start.last feeds gave h.merges in_time;
      stands = h.stands;
      fits = h.fits;
      counted = counted_more c.self.inside.credit c.saturating_add-self-inside.result c.self.inside.merger start feeds gave c.args.node c.args.branch h.merges c.requires.first (omega (arith, many, within)) counted (omega (arith, sum, counted, few, some));
      few = λ any. omega (arith, few, fed, some);
    }
