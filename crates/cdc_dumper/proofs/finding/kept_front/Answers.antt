use Rattle.std.proofs.Common.{◌≡◌, ℕ, inr, sym, ◌∙◌, ap, subst, arith, length-take}
use Rattle.std.specs.Prelude.{Option, unwrap_or}
use Rattle.cdc_cell.specs.Cell.{length_of}
use Rattle.cdc_records.specs.Front.{IsFrontRecord}
use Rattle.cdc_dumper.specs.Opening.{record_of}
use Rattle.cdc_dumper.proofs.Kept.{too_long, has_front, no_front_there}
use Rattle.cdc_dumper.proofs.finding.kept_front.Goals as goal

pub returns-then-length-clause-refused : goal.returns-then-length-clause-refused
returns-then-length-clause-refused g c = λ told knows.
    inr (too_long c.args.cell.now (g.D.Disk.seen c.args.disk.now) c.in-Some.slot c.unwrap_or-length.result knows (sym c.slot.ensures ∙ c.in-Some.is) (c.unwrap_or-length.ensures ∙ ap (λ (o : Option ℕ). unwrap_or o 0) c.length.ensures) c.if-length.true)

pub returns-in-Some-read_front-clause-number : goal.returns-in-Some-read_front-clause-number
returns-in-Some-read_front-clause-number g c = sym c.number.ensures ∙ (c.in-Some-read_front.ensures.some c.in-Some.slot).number

pub returns-in-Some-read_front-clause-shaped : goal.returns-in-Some-read_front-clause-shaped
returns-in-Some-read_front-clause-shaped g c = inr (c.in-Some-read_front.ensures.some c.in-Some.slot).sound

pub returns-in-Some-read_front-clause-found : goal.returns-in-Some-read_front-clause-found
returns-in-Some-read_front-clause-found g c = λ told knows.
    let size : c.unwrap_or-length.result ≡ unwrap_or (length_of c.args.cell.now) 0 = c.unwrap_or-length.ensures ∙ ap (λ (o : Option ℕ). unwrap_or o 0) c.length.ensures in
    has_front c.args.cell.now (g.D.Disk.seen c.args.disk.now) c.in-Some.slot _ c.load.new.into c.in-Some-read_front.front knows (sym c.slot.ensures ∙ c.in-Some.is)
    (simp length-take (omega (arith, size, c.if-length.false))) (c.in_ok-load.ensures.loaded told knows)
    (λ slot. subst (λ (n : ℕ). IsFrontRecord (record_of slot n c.load.new.into) c.in-Some-read_front.front) c.number.ensures (c.in-Some-read_front.ensures.some slot))

pub returns-in-None-clause-refused : goal.returns-in-None-clause-refused
returns-in-None-clause-refused g c = λ told knows.
    let size : c.unwrap_or-length.result ≡ unwrap_or (length_of c.args.cell.now) 0 = c.unwrap_or-length.ensures ∙ ap (λ (o : Option ℕ). unwrap_or o 0) c.length.ensures in
    inr (no_front_there c.args.cell.now (g.D.Disk.seen c.args.disk.now) c.in-Some.slot _ c.load.new.into knows (sym c.slot.ensures ∙ c.in-Some.is)
    (simp length-take (omega (arith, size, c.if-length.false))) (c.in_ok-load.ensures.loaded told knows)
    (λ slot f is. c.in-None.ensures.none slot f (subst (λ (n : ℕ). IsFrontRecord (record_of slot n c.load.new.into) f) (sym c.number.ensures) is)))
