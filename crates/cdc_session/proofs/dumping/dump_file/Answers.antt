use Rattle.std.proofs.Common.{◌≡◌, ℕ, ◌+◌, List, [], ◌∷◌, ap, sym, ◌∙◌, subst}
use Rattle.std.specs.Prelude.{true, false, Err}
use Rattle.cdc_outside.specs.Disk.{Image}
use Rattle.cdc_records.specs.Published.{published_file}
use Rattle.cdc_index.specs.Chain.{is_whole_file, is_boundary_of}
use Rattle.cdc_index.specs.Shelf.{TellsBoundary}
use Rattle.cdc_index.specs.declared.shelf_fault.ShelfFault.{ShelfFault}
use Rattle.cdc_index.specs.declared.shelf_fault.ShelfFault.TheVariants as shelf_fault
use Rattle.cdc_session.specs.declared.session_end.SessionEnd.TheVariants.{Torn}
use Rattle.cdc_session.specs.Reply.{Answer, dump_answer, goes_on, ends_with, no_place_payload, packets_from}
use Rattle.cdc_session.specs.Shelf.{file_at, files_on}
use Rattle.cdc_session.proofs.Answering.{no_place_answer, torn_answer, follows_as, no_front}
use Rattle.cdc_session.proofs.Names.{files_here}
use Rattle.cdc_session.proofs.dumping.dump_file.Goals as goal

pub returns-in-Ok-false-clause-told : goal.returns-in-Ok-false-clause-told
returns-in-Ok-false-clause-told g c told tells image same =
    let front = c.args.front.now in
    let number : ℕ = c.args.number in
    let here : published_file front image number ≡ published_file front (g.D.Disk.seen c.args.disk.now) number = sym (ap (λ (i : Image). published_file front i number) same) in
    let tests = c.in-Ok-false.ensures.told told in
    let whole : is_whole_file (published_file front image number) ≡ true = ap is_whole_file here ∙ tests.0 in
    let bound : is_boundary_of (published_file front image number) c.args.at ≡ false =
    ap (λ (l : List ℕ). is_boundary_of l c.args.at) here ∙ sym tests.1 ∙ c.in-Ok-false.field-0-test in
    follows_as c.send.result (goes_on (no_place_payload ∷ [])) (dump_answer c.args.at c.args.flags (files_on front image number)) c.args.sequence
    (g.L.Link.written c.args.link.now) (g.L.Link.written c.send.new.link)
    (ap (dump_answer c.args.at c.args.flags) (files_here front image number c.requires.published)
    ∙ no_place_answer c.args.at c.args.flags (file_at front image number) (files_on front image (number + 1)) whole bound)
    (c.send.ensures.told tells)

pub returns-in-Err-Torn-clause-told : goal.returns-in-Err-Torn-clause-told
returns-in-Err-Torn-clause-told g c told tells image same =
    let front = c.args.front.now in
    let number : ℕ = c.args.number in
    let old : List ℕ = published_file front (g.D.Disk.seen c.args.disk.now) number in
    let here : published_file front image number ≡ old = sym (ap (λ (i : Image). published_file front i number) same) in
    let torn : TellsBoundary old c.args.at (Err shelf_fault.Torn) =
    subst (λ (x : ShelfFault). TellsBoundary old c.args.at (Err x)) c.in-Err-Torn.field-0-is (c.in-Err-Torn.ensures.told told) in
    let answer : dump_answer c.args.at c.args.flags (files_on front image number) ≡ ends_with [] Torn =
    ap (dump_answer c.args.at c.args.flags) (files_here front image number c.requires.published)
    ∙ torn_answer c.args.at c.args.flags (file_at front image number) (files_on front image (number + 1)) (ap is_whole_file here ∙ torn) in
    record {
      ends = ap (λ (a : Answer). a.ending) answer;
      written = no_front (g.L.Link.written c.args.link.now) (packets_from c.args.sequence (dump_answer c.args.at c.args.flags (files_on front image number)).payloads);
    }
