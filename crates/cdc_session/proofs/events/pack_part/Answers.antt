use Rattle.std.proofs.Common.{ℕ, ◌++◌, List, take, map, ap, sym, ◌∙◌}
use Rattle.cdc_session.specs.Dump.{as_payloads, events_from, first_event, without_place}
use Rattle.cdc_session.proofs.Chains.{no_first, some_first}
use Rattle.cdc_session.proofs.Sent.{packs_as, packs_then, breaks_part}
use Rattle.cdc_session.proofs.events.pack_part.Goals as goal

pub returns-then-at-clause-told : goal.returns-then-at-clause-told
returns-then-at-clause-told g c told tells image same reads =
    let content : List ℕ = take c.args.source.limit (image c.args.source.file) in
    let events : List (List ℕ) = events_from c.args.at content in
    packs_as c.pack_events.result (g.L.Link.written c.args.link.now) c.args.out.now.held (g.L.Link.written c.pack_events.new.link) c.pack_events.new.out.held
    c.args.out.now.sequence c.pack_events.new.out.sequence (as_payloads events) (as_payloads (first_event c.args.at content ++ events))
    (sym (ap (λ (l : List (List ℕ)). as_payloads (l ++ events)) (no_first c.args.at content c.if-at.true)))
    (c.pack_events.ensures.told told tells image same reads)

pub returns-in-Err-clause-told : goal.returns-in-Err-clause-told
returns-in-Err-clause-told g c told tells image same reads =
    let content : List ℕ = take c.args.source.limit (image c.args.source.file) in
    let events : List (List ℕ) = events_from c.args.at content in
    breaks_part c.args.out.now.sequence (as_payloads (first_event c.args.at content ++ events)) (as_payloads (map without_place (take 1 (events_from 4 content)))) (as_payloads events)
    (some_first c.args.at content c.if-at.false) (c.in-Err.ensures.told told tells image same reads)

pub returns-clause-told : goal.returns-clause-told
returns-clause-told g c told tells image same reads =
    let content : List ℕ = take c.args.source.limit (image c.args.source.file) in
    let events : List (List ℕ) = events_from c.args.at content in
    let first : List (List ℕ) = as_payloads (map without_place (take 1 (events_from 4 content))) in
    packs_as c.pack_events-2.result (g.L.Link.written c.args.link.now) c.args.out.now.held (g.L.Link.written c.pack_events-2.new.link) c.pack_events-2.new.out.held
    c.args.out.now.sequence c.pack_events-2.new.out.sequence (first ++ as_payloads events) (as_payloads (first_event c.args.at content ++ events))
    (sym (some_first c.args.at content c.if-at.false))
    (packs_then c.pack_events-2.result (g.L.Link.written c.pack_events-2.new.link) c.pack_events-2.new.out.held c.pack_events-2.new.out.sequence (as_payloads events)
    (c.in_default.ensures.told told tells image same reads)
    (c.pack_events-2.ensures.told told tells image ((c.in_default.ensures.alone told).same ∙ same) (c.in_default.ensures.reads told image same reads)))
