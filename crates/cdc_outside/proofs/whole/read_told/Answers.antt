use Rattle.std.proofs.Common.{inr, ◌∙◌, arith}
use Rattle.cdc_outside.proofs.Highest.{asks_within}
use Rattle.cdc_outside.proofs.Lowest.{asks_again}
use Rattle.cdc_outside.proofs.Piece.{next_front}
use Rattle.cdc_outside.proofs.whole.read_told.Goals as goal

pub returns-in_err-read-clause-lowest : goal.returns-in_err-read-clause-lowest
returns-in_err-read-clause-lowest g c = inr (asks_again _ _ _ c.args.file c.loop-at.at c.loop-at.invariant.lowest c.in_err-read.ensures.lowest)

pub returns-then-read-eq0-clause-lowest : goal.returns-then-read-eq0-clause-lowest
returns-then-read-eq0-clause-lowest g c = inr (asks_again _ _ _ c.args.file c.loop-at.at c.loop-at.invariant.lowest c.in_ok-read.ensures.lowest)

pub loop-at-preserved : goal.loop-at-preserved
loop-at-preserved g c = record {
  front = λ told. next_front c.args.file c.loop-at.at c.in_ok-read.read c.loop-at.invariant.held (c.in_ok-read.ensures.exact told) (c.loop-at.invariant.front told);
  count = omega (arith, c.in_ok-read.ensures.grown, c.loop-at.invariant.count);
  within = omega (arith, c.in_ok-read.ensures.within, c.loop-at.invariant.within);
  room = omega (arith, c.loop-at.invariant.room);
  later = omega (arith, c.in_ok-read.ensures.later, c.loop-at.invariant.later);
  held = c.in_ok-read.ensures.held ∙ c.loop-at.invariant.held;
  sizes = c.in_ok-read.ensures.sizes ∙ c.loop-at.invariant.sizes;
  past = asks_within _ _ _ c.args.file _ c.args.told (omega (arith, c.loop-at.invariant.within)) c.loop-at.invariant.past c.in_ok-read.ensures.highest;
  lowest = inr (asks_again _ _ _ c.args.file c.loop-at.at c.loop-at.invariant.lowest c.in_ok-read.ensures.lowest);
}

pub returns-in_err-read-clause-past : goal.returns-in_err-read-clause-past
returns-in_err-read-clause-past g c = asks_within _ _ _ c.args.file _ c.args.told (omega (arith, c.loop-at.invariant.within)) c.loop-at.invariant.past c.in_err-read.ensures.highest

pub returns-then-read-eq0-clause-past : goal.returns-then-read-eq0-clause-past
returns-then-read-eq0-clause-past g c = asks_within _ _ _ c.args.file _ c.args.told (omega (arith, c.loop-at.invariant.within)) c.loop-at.invariant.past c.in_ok-read.ensures.highest
