use Rattle.std.proofs.Common.{◌≡◌, ℕ, List, ◌++◌, length, ap, sym, ◌∙◌, subst, arith}
use Rattle.cdc_event.specs.Event.{IsEvent, event_bytes}
use Rattle.cdc_event.specs.declared.event.Event.{Event}
use Rattle.cdc_session.specs.Dump.{rotate_to}
use Rattle.cdc_session.proofs.Names.{rotate_is_event, rotate_short}
use Rattle.cdc_session.proofs.naming.rotate_bytes.Goals as goal

pub write_event-requires : goal.write_event-requires
write_event-requires c =
    subst (λ (e : Event). IsEvent e) (sym c.rotate_event.ensures) (rotate_is_event c.args.number c.args.at c.ranges.number.fits c.ranges.at.fits)

pub returns-clause-short : goal.returns-clause-short
unfolding rotate_to
returns-clause-short c =
    let same : c.write_event.new.into ≡ rotate_to c.args.number c.args.at =
    c.in_ok-write_event.ensures.ok ∙ ap (λ (l : List ℕ). l ++ event_bytes c.rotate_event.result) c.new-bytes.ensures ∙ ap event_bytes c.rotate_event.ensures in
    let short = rotate_short c.args.number c.args.at c.ranges.number.fits in
    omega (arith, ap (λ (l : List ℕ). length l) same, short)
