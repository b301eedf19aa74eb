use Rattle.std.proofs.Common.{ℕ, List, [], ◌∷◌, ◌++◌, refl}
use Rattle.cdc_records.specs.Published.{published_file}
use Rattle.cdc_session.specs.Dump.{as_payloads, rotate_to, first_event, events_from, file_part}
use Rattle.cdc_session.specs.Shelf.{file_at}
use Rattle.cdc_session.proofs.Sent.{packs_then, breaks_part}
use Rattle.cdc_session.proofs.files.pack_file.Goals as goal

pub returns-in-Err-clause-told : goal.returns-in-Err-clause-told
returns-in-Err-clause-told g c told tells image same =
    let content : List ℕ = published_file c.args.front.now image c.args.number in
    breaks_part c.args.out.now.sequence (as_payloads (file_part c.args.at (file_at c.args.front.now image c.args.number))) (as_payloads (rotate_to c.args.number c.args.at ∷ []))
    (as_payloads (first_event c.args.at content ++ events_from c.args.at content)) refl (c.in-Err.ensures.told tells)

pub returns-clause-told : goal.returns-clause-told
returns-clause-told g c told tells image same =
    let content : List ℕ = published_file c.args.front.now image c.args.number in
    packs_then c.pack_published.result (g.L.Link.written c.pack_published.new.link) c.pack_published.new.out.held c.pack_published.new.out.sequence
    (as_payloads (first_event c.args.at content ++ events_from c.args.at content)) (c.in_default.ensures.told tells) (c.pack_published.ensures.told told tells image same)
