use Rattle.std.proofs.Common.{◌∙◌, ◌++◌, Some, refl, ap, arith, le_refl, sym}
use Rattle.cdc_reader.proofs.Steps.{advances_on, advances_to, nothing_more}
use Rattle.cdc_reader.proofs.reader.Reader.advance.Goals as goal

pub returns-in-Some-clause-advances : goal.returns-in-Some-clause-advances
returns-in-Some-clause-advances c = λ tells files reading taken feed reads goes_on given.
    let first = c.events.invariant.advances tells files reading taken feed reads goes_on given in
    advances_to tells files c.events.self c.take_next.new.self reading taken feed c.in-Some.advance first
    (c.in-Some.ensures.takes tells files reading (taken ++ first.more) feed first.reads (c.events.invariant.end ∙ goes_on) first.given)

pub returns-in-Some-clause-tells : goal.returns-in-Some-clause-tells
returns-in-Some-clause-tells c = λ bound is same.
    c.take_next.ensures.tells bound (c.in-Some.is ∙ ap Some is) (same ∙ sym c.events.invariant.told)

pub returns-in-Some-clause-cuts : goal.returns-in-Some-clause-cuts
returns-in-Some-clause-cuts c = let first = c.events.invariant.cuts in let second = c.take_next.ensures.cuts in omega (arith, first, second)

pub returns-in-Some-clause-known : goal.returns-in-Some-clause-known
returns-in-Some-clause-known c = λ tells files reading taken feed reads goes_on given.
    let first = c.events.invariant.advances tells files reading taken feed reads goes_on given in
    c.take_next.ensures.known reading (taken ++ first.more) feed first.reads.feeding ∙ c.events.invariant.known tells files reading taken feed reads goes_on given

pub events-preserved : goal.events-preserved
events-preserved c = record {
  end = c.take_next.ensures.end ∙ c.events.invariant.end;
  told = c.in-None.ensures.told ∙ c.events.invariant.told;
  place = c.take_next.ensures.place ∙ c.events.invariant.place;
  cuts = let first = c.events.invariant.cuts in let second = c.take_next.ensures.cuts in omega (arith, first, second);
  known = λ tells files reading taken feed reads goes_on given.
      let first = c.events.invariant.advances tells files reading taken feed reads goes_on given in
      c.take_next.ensures.known reading (taken ++ first.more) feed first.reads.feeding ∙ c.events.invariant.known tells files reading taken feed reads goes_on given;
  advances = λ tells files reading taken feed reads goes_on given.
      let first = c.events.invariant.advances tells files reading taken feed reads goes_on given in
      advances_on tells files c.events.self c.take_next.new.self reading taken feed first
      (c.in-None.ensures.takes tells files reading (taken ++ first.more) feed first.reads (c.events.invariant.end ∙ goes_on) first.given);
}

pub events-init : goal.events-init
events-init c = record {
  end = refl;
  told = refl;
  place = refl;
  cuts = le_refl _;
  known = λ tells files reading taken feed reads goes_on given. refl;
  advances = λ tells files reading taken feed reads goes_on given. nothing_more tells files c.args.self.now reading taken feed reads given;
}
