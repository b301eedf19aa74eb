use Rattle.std.proofs.Common.{◌≡◌, ◌∙◌, sym}
use Rattle.cdc_reader.specs.declared.step.Step.TheVariants.{Read as BytesRead}
use Rattle.cdc_reader.proofs.Filled.{settled_so, nothing_settled, over_so, open_told, over_told, giving_no_read}
use Rattle.cdc_reader.proofs.reader.Reader.at_hand.Goals as goal

pub returns-in-Some-clause-steps : goal.returns-in-Some-clause-steps
returns-in-Some-clause-steps c = λ tells files reading taken feed reads.
    settled_so tells files c.args.self.now c.settled.new.self reading taken feed c.in-Some.step reads c.settled.ensures.log c.settled.ensures.end
    c.settled.ensures.stopped (c.in-Some.ensures.settles reading taken feed reads.feeding)

pub returns-in-Some-clause-no_read : goal.returns-in-Some-clause-no_read
returns-in-Some-clause-no_read c = λ count is. giving_no_read c.in-Some.step count c.in-Some.ensures.giving (let e : c.in-Some.step ≡ BytesRead count = cc in e)

pub returns-then-is_going-clause-steps : goal.returns-then-is_going-clause-steps
returns-then-is_going-clause-steps c = λ tells files reading taken feed reads.
    let settled = c.in-None.ensures.settles reading taken feed reads.feeding in
    c.go_on.ensures.steps tells files reading taken feed
    (nothing_settled tells files c.args.self.now c.settled.new.self reading taken feed reads c.settled.ensures.log c.settled.ensures.end
    c.settled.ensures.stopped settled.0)
    (open_told c.settled.new.self.end (sym c.is_going.ensures ∙ c.if-is_going.true)) settled.1

pub returns-then-is_going-clause-known : goal.returns-then-is_going-clause-known
returns-then-is_going-clause-known c = λ tells files reading taken feed reads.
    let settled = c.in-None.ensures.settles reading taken feed reads.feeding in
    c.go_on.ensures.known tells files reading taken feed
    (nothing_settled tells files c.args.self.now c.settled.new.self reading taken feed reads c.settled.ensures.log c.settled.ensures.end
    c.settled.ensures.stopped settled.0)
    (open_told c.settled.new.self.end (sym c.is_going.ensures ∙ c.if-is_going.true)) settled.1 ∙ c.settled.ensures.known

pub returns-then-is_going-clause-wants : goal.returns-then-is_going-clause-wants
returns-then-is_going-clause-wants c = λ is.
    let wants = c.go_on.ensures.wants is in
    (wants.0 ∙ open_told c.settled.new.self.end (sym c.is_going.ensures ∙ c.if-is_going.true), wants.1)

pub returns-then-is_going-clause-over : goal.returns-then-is_going-clause-over
returns-then-is_going-clause-over c = λ over. absurd (over (sym c.settled.ensures.end ∙ open_told c.settled.new.self.end (sym c.is_going.ensures ∙ c.if-is_going.true)))

pub returns-else-is_going-clause-steps : goal.returns-else-is_going-clause-steps
returns-else-is_going-clause-steps c = λ tells files reading taken feed reads.
    let settled = c.in-None.ensures.settles reading taken feed reads.feeding in
    over_so tells files c.settled.new.self reading taken feed
    (nothing_settled tells files c.args.self.now c.settled.new.self reading taken feed reads c.settled.ensures.log c.settled.ensures.end
    c.settled.ensures.stopped settled.0)
    settled.1 (over_told c.settled.new.self.end (sym c.is_going.ensures ∙ c.if-is_going.false))
