use Rattle.std.proofs.Common.{ℕ, ◌+◌, ◌∷◌, [], List, take, drop, ap, sym, ◌∙◌}
use Rattle.std.specs.Prelude.{Ok}
use Rattle.cdc_session.specs.Dump.{as_payloads, events_from}
use Rattle.cdc_session.proofs.Chains.{event_is, payloads_here}
use Rattle.cdc_session.proofs.Sent.{packs_as, breaks_part}
use Rattle.cdc_session.proofs.events.pack_next.Goals as goal

pub returns-in-Ok-pack_from-clause-told : goal.returns-in-Ok-pack_from-clause-told
returns-in-Ok-pack_from-clause-told g c told tells image same reads =
    let file : List ℕ = image c.args.source.file in
    let event : List ℕ = take c.in-Ok.size (drop c.args.place file) in
    let here = event_is file c.args.source.limit c.args.place c.in-Ok.size c.in-Ok.ensures.within.1 in
    packs_as {X = Unit {0}} (Ok tt) (g.L.Link.written c.args.link.now) c.args.out.now.held (g.L.Link.written c.pack_from.new.link) c.pack_from.new.out.held
    c.args.out.now.sequence c.pack_from.new.out.sequence ((0 ∷ event) ∷ []) ((0 ∷ take c.in-Ok.size (drop c.args.place (take c.args.source.limit file))) ∷ [])
    (ap (λ (l : List ℕ). (0 ∷ l) ∷ []) here)
    (c.in-Ok-pack_from.ensures.told told tells image ((c.in-Ok.ensures.alone told).same ∙ same) (c.in-Ok.ensures.reads told image same reads))

pub returns-in-Err-pack_from-clause-told : goal.returns-in-Err-pack_from-clause-told
returns-in-Err-pack_from-clause-told g c told tells image same reads =
    let file : List ℕ = image c.args.source.file in
    let limit : ℕ = c.args.source.limit in
    let place : ℕ = c.args.place in
    let size : ℕ = c.in-Ok.size in
    let event : List ℕ = take size (drop place file) in
    let here = event_is file limit place size c.in-Ok.ensures.within.1 in
    breaks_part c.args.out.now.sequence (as_payloads (events_from place (take limit file))) ((0 ∷ event) ∷ []) (as_payloads (events_from (place + size) (take limit file)))
    (payloads_here file limit place size reads.within (c.in-Ok.ensures.told told image same reads) c.in-Ok.ensures.within.0 c.in-Ok.ensures.within.1
    ∙ ap (λ (l : List ℕ). (0 ∷ l) ∷ as_payloads (events_from (place + size) (take limit file))) (sym here))
    (c.in-Err-pack_from.ensures.told told tells image ((c.in-Ok.ensures.alone told).same ∙ same) (c.in-Ok.ensures.reads told image same reads))
