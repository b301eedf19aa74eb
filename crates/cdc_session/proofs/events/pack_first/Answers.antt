use Rattle.std.proofs.Common.{ℕ, ◌-◌, ◌∷◌, [], ◌++◌, List, take, drop, map, ap, sym, ◌∙◌}
use Rattle.cdc_session.specs.Dump.{as_payloads, events_from, without_place}
use Rattle.cdc_session.proofs.Chains.{first_payload, first_alone}
use Rattle.cdc_session.proofs.Sent.{packs_as}
use Rattle.cdc_session.proofs.events.pack_first.Goals as goal

pub returns-clause-told : goal.returns-clause-told
returns-clause-told g c told tells image same reads =
    let file : List ℕ = image c.args.source.file in
    let limit : ℕ = c.args.source.limit in
    let size : ℕ = c.in-Ok.size in
    let lead : List ℕ = c.in-Ok-first_lead.lead in
    let within = c.in-Ok.ensures.within in
    let here = c.in-Ok.ensures.reads told image same reads in
    let same2 = (c.in-Ok.ensures.alone told).same ∙ same in
    let first = first_payload file lead limit size reads.within within.0 within.1 (c.in-Ok-first_lead.ensures.told told image same2 here) in
    let alone = first_alone file limit size reads.within (c.in-Ok.ensures.told told image same reads) within.0 within.1 in
    packs_as c.pack_from.result (g.L.Link.written c.args.link.now) c.args.out.now.held (g.L.Link.written c.pack_from.new.link) c.pack_from.new.out.held
    c.args.out.now.sequence c.pack_from.new.out.sequence ((lead ++ take (size - 19) (drop 23 file)) ∷ []) (as_payloads (map without_place (take 1 (events_from 4 (take limit file)))))
    (ap (λ (l : List ℕ). l ∷ []) first ∙ sym alone)
    (c.pack_from.ensures.told told tells image ((c.in-Ok-first_lead.ensures.alone told).same ∙ same2) (c.in-Ok-first_lead.ensures.reads told image same2 here))
