use Rattle.std.proofs.Common.{◌≡◌, ℕ, List, [], ◌∷◌, ap, sym, ◌∙◌, subst}
use Rattle.std.specs.Prelude.{Option, None, Some}
use Rattle.cdc_session.specs.Dump.{asked_files}
use Rattle.cdc_session.specs.Finding.{FindsFile}
use Rattle.cdc_session.specs.Reply.{dump_answer, goes_on, no_place_payload}
use Rattle.cdc_session.specs.Shelf.{shelf_files}
use Rattle.cdc_session.proofs.Answering.{follows_as}
use Rattle.cdc_session.proofs.Chains.{has_torn}
use Rattle.cdc_session.proofs.dumping.dump_front.Goals as goal

pub returns-in-Ok-Some-clause-torn : goal.returns-in-Ok-Some-clause-torn
returns-in-Ok-Some-clause-torn g c told image same e found =
    let finds : FindsFile c.args.front.now c.bytes.result.now (Some c.in-Ok-Some.number) =
    subst (λ (o : Option ℕ). FindsFile c.args.front.now c.bytes.result.now o) c.in-Ok-Some.field-0-is c.in-Ok-Some.ensures in
    has_torn c.args.front.now image c.in-Ok-Some.number found finds.0 finds.1 (c.dump_file.ensures.torn told image same e)

pub returns-in-Ok-None-clause-told : goal.returns-in-Ok-None-clause-told
returns-in-Ok-None-clause-told g c told tells image same =
    let finds : FindsFile c.args.front.now c.bytes.result.now None =
    subst (λ (o : Option ℕ). FindsFile c.args.front.now c.bytes.result.now o) c.in-Ok-None.field-0-is c.in-Ok-None.ensures in
    let none : asked_files c.args.name.now (shelf_files c.args.front.now image) ≡ [] =
    ap (λ (n : List ℕ). asked_files n (shelf_files c.args.front.now image)) (sym c.bytes.ensures.value) ∙ finds image in
    follows_as c.send.result (goes_on (no_place_payload ∷ [])) (dump_answer c.args.at c.args.flags (asked_files c.args.name.now (shelf_files c.args.front.now image))) c.args.sequence
    (g.L.Link.written c.args.link.now) (g.L.Link.written c.send.new.link) (ap (dump_answer c.args.at c.args.flags) none) (c.send.ensures.told tells)
