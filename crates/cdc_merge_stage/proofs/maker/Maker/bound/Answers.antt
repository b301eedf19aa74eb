use Rattle.std.proofs.Common.{arith, ◌-◌, length, sym, ◌∙◌, ap, subst}
use Rattle.cdc_merge_stage.specs.Making.{MakerState, Makes}
use Rattle.cdc_merge_stage.proofs.Credits.{none_fed_at}
use Rattle.cdc_merge_stage.proofs.maker.Maker.bound.Goals as goal

pub returns-clause-told : goal.returns-clause-told
returns-clause-told g c start feeds gave has higher =
    let h = subst (λ (s : MakerState). Makes s start feeds gave) (sym c.self.view_is) has in
    record {
      merges = c.bound.ensures.merges start.count start.last feeds gave h.merges higher;
      stands = h.stands;
      fits = h.fits;
      counted = h.counted ∙ ap length (sym (none_fed_at c.args.bound (c.args.node - 1) feeds));
      few = λ some.
          let same = ap length (none_fed_at c.args.bound (c.args.node - 1) feeds) in
          let few = h.few (omega (arith, some, same)) in
          omega (arith, few, same);
    }
