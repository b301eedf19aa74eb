use Rattle.std.proofs.Common.{◌≡◌, ℕ, sym, ◌∙◌, arith, length-set}
use Rattle.cdc_writer.proofs.Marks.{digits_step, digits_none}
use Rattle.cdc_writer.proofs.digits.write_digits.Goals as goal

pub loop-places-preserved : goal.loop-places-preserved
loop-places-preserved c = record {
  within = omega (arith, length-set {A = ℕ}, c.loop-places.invariant.within);
  written = c.loop-places.invariant.written ∙ digits_step _ _ _ (omega arith) c.loop-places.invariant.within;
}

pub returns : goal.returns
returns c =
    let none : c.loop-places.places ≡ 0 = omega arith in
    let left = rw none at c.loop-places.invariant.written in
    sym (left ∙ digits_none _ _)
