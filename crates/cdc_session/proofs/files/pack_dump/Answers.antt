use Rattle.std.proofs.Common.{◌+◌, refl, ◌∙◌}
use Rattle.cdc_session.specs.Dump.{as_payloads, file_part, whole_payloads, dump_payloads}
use Rattle.cdc_session.specs.Shelf.{file_at, files_on}
use Rattle.cdc_session.proofs.Sent.{packs_then, breaks_part}
use Rattle.cdc_session.proofs.files.pack_dump.Goals as goal

pub returns-in-Err-clause-told : goal.returns-in-Err-clause-told
returns-in-Err-clause-told g c told tells image same =
    let front = c.args.front.now in
    breaks_part c.args.out.now.sequence (dump_payloads c.args.at (file_at front image c.args.number) (files_on front image (c.args.number + 1)))
    (as_payloads (file_part c.args.at (file_at front image c.args.number))) (whole_payloads (files_on front image (c.args.number + 1))) refl
    (c.in-Err.ensures.told told tells image same)

pub returns-clause-told : goal.returns-clause-told
returns-clause-told g c told tells image same =
    let front = c.args.front.now in
    packs_then c.pack_behind.result (g.L.Link.written c.pack_behind.new.link) c.pack_behind.new.out.held c.pack_behind.new.out.sequence
    (whole_payloads (files_on front image (c.args.number + 1))) (c.in_default.ensures.told told tells image same)
    (c.pack_behind.ensures.told told tells image ((c.in_default.ensures.alone told).same ∙ same))
