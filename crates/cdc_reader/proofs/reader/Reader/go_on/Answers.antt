use Rattle.std.proofs.Common.{◌≡◌, ◌∙◌, ap, sym, subst}
use Rattle.cdc_reader.specs.declared.step.Step.TheVariants.{Read as BytesRead, End}
use Rattle.cdc_reader.specs.Standing.{ReaderState, IsGiving, AdvancesTo, reading_ended}
use Rattle.cdc_reader.proofs.Filled.{gives_so, ended_so, giving_no_read}
use Rattle.cdc_reader.proofs.reader.Reader.go_on.Goals as goal

pub returns-in-Gives-clause-steps : goal.returns-in-Gives-clause-steps
returns-in-Gives-clause-steps c = λ tells files reading taken feed reads goes_on given.
    gives_so tells files c.advance.new.self reading taken feed c.in-Gives.step (c.in-Gives.ensures.advances tells files reading taken feed reads goes_on given)

pub returns-in-Gives-clause-no_read : goal.returns-in-Gives-clause-no_read
returns-in-Gives-clause-no_read c = λ count is. giving_no_read c.in-Gives.step count c.in-Gives.ensures.own (let e : c.in-Gives.step ≡ BytesRead count = cc in e)

pub returns-in-NeedsBytes-clause-steps : goal.returns-in-NeedsBytes-clause-steps
returns-in-NeedsBytes-clause-steps c = λ tells files reading taken feed reads goes_on given. c.in-NeedsBytes.ensures.advances tells files reading taken feed reads goes_on given

pub returns-in-Ends-clause-steps : goal.returns-in-Ends-clause-steps
returns-in-Ends-clause-steps c = λ tells files reading taken feed reads goes_on given.
    let to = c.in-Ends.ensures.advances tells files reading taken feed reads goes_on given in
    ended_so tells files _ reading taken feed
    (subst (λ (r : ReaderState). AdvancesTo tells files (reading_ended r c.in-Ends.end) reading taken feed) (sym c.self.view_is) to.0) to.1

pub returns-in-Ends-clause-giving : goal.returns-in-Ends-clause-giving
returns-in-Ends-clause-giving c = λ step is giving. absurd (let e : step ≡ End = cc in subst IsGiving e giving)

pub returns-in-Ends-clause-failed : goal.returns-in-Ends-clause-failed
returns-in-Ends-clause-failed c = λ is. absurd (c.in-Ends.ensures.own is)

pub returns-in-Ends-clause-known : goal.returns-in-Ends-clause-known
returns-in-Ends-clause-known c = λ tells files reading taken feed reads goes_on given.
    ap (λ (r : ReaderState). r.sorter.trail.known) c.self.view_is ∙ c.advance.ensures.known tells files reading taken feed reads goes_on given
