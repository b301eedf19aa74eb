use Rattle.std.proofs.Common.{ℕ, ◌+◌, List, ◌∷◌, ap, sym, subst}
use Rattle.std.specs.Prelude.{Ok, Err, None, Some}
use Rattle.cdc_session.specs.declared.session_end.SessionEnd.{SessionEnd}
use Rattle.cdc_session.specs.declared.session_end.SessionEnd.TheVariants.{Closed}
use Rattle.cdc_session.specs.Following.{FollowsAnswer}
use Rattle.cdc_session.specs.Reply.{Answer, dump_answer}
use Rattle.cdc_session.specs.Shelf.{PublishedFile, file_at, files_on}
use Rattle.cdc_session.proofs.Answering.{dump_broke, end_broke, dump_sent, follows_as}
use Rattle.cdc_session.proofs.Names.{files_here}
use Rattle.cdc_session.proofs.dumping.send_dump.Goals as goal

pub returns-in-Err-clause-told : goal.returns-in-Err-clause-told
returns-in-Err-clause-told g c told tells image same whole bound =
    let file : PublishedFile = file_at c.args.front.now image c.args.number in
    let files : List PublishedFile = files_on c.args.front.now image (c.args.number + 1) in
    let answer : Answer = dump_answer c.args.at c.args.flags (file ∷ files) in
    let before : List ℕ = g.L.Link.written c.args.link.now in
    let now : List ℕ = g.L.Link.written c.pack_dump.new.link in
    let base = dump_broke c.args.at c.args.flags file files c.args.sequence before c.new.result now c.in-Err.stop whole bound c.new.ensures
    (c.in-Err.ensures.told told tells image same) (λ torn. c.in-Err.ensures.torn told image same whole bound (ap Err torn)) in
    let named = subst (λ (e : SessionEnd). FollowsAnswer {X = Unit {0}} answer c.args.sequence before now (Err e)) (sym c.end_of.ensures) base in
    follows_as {X = Unit {0}} (Err c.end_of.result) answer (dump_answer c.args.at c.args.flags (files_on c.args.front.now image c.args.number)) c.args.sequence before now
    (ap (dump_answer c.args.at c.args.flags) (files_here c.args.front.now image c.args.number c.requires.published)) named

pub returns-in-Err-finish-clause-told : goal.returns-in-Err-finish-clause-told
returns-in-Err-finish-clause-told g c told tells image same whole bound =
    let file : PublishedFile = file_at c.args.front.now image c.args.number in
    let files : List PublishedFile = files_on c.args.front.now image (c.args.number + 1) in
    let answer : Answer = dump_answer c.args.at c.args.flags (file ∷ files) in
    let before : List ℕ = g.L.Link.written c.args.link.now in
    let mid : List ℕ = g.L.Link.written c.pack_dump.new.link in
    let now : List ℕ = g.L.Link.written c.finish.new.link in
    let base = end_broke c.args.at c.args.flags file files c.args.sequence c.pack_dump.new.out.sequence before c.new.result mid c.pack_dump.new.out.held now c.in-Err-finish.stop whole bound
    (c.in_default.ensures.ok told image same) c.new.ensures (c.in_default.ensures.told told tells image same) (c.in-Err-finish.ensures.told tells)
    (λ torn. c.in-Err-finish.ensures.torn (ap Err torn)) in
    let named = subst (λ (e : SessionEnd). FollowsAnswer {X = Unit {0}} answer c.args.sequence before now (Err e)) (sym c.end_of-in-Err-finish.ensures) base in
    follows_as {X = Unit {0}} (Err c.end_of-in-Err-finish.result) answer (dump_answer c.args.at c.args.flags (files_on c.args.front.now image c.args.number)) c.args.sequence before now
    (ap (dump_answer c.args.at c.args.flags) (files_here c.args.front.now image c.args.number c.requires.published)) named

pub returns-then-flags-eq-NO_WAITING-clause-told :
    goal.returns-then-flags-eq-NO_WAITING-clause-told
returns-then-flags-eq-NO_WAITING-clause-told g c told tells image same whole bound =
    let file : PublishedFile = file_at c.args.front.now image c.args.number in
    let files : List PublishedFile = files_on c.args.front.now image (c.args.number + 1) in
    let before : List ℕ = g.L.Link.written c.args.link.now in
    let mid : List ℕ = g.L.Link.written c.pack_dump.new.link in
    let now : List ℕ = g.L.Link.written c.finish.new.link in
    follows_as {X = Unit {0}} (Ok tt) (dump_answer c.args.at c.args.flags (file ∷ files)) (dump_answer c.args.at c.args.flags (files_on c.args.front.now image c.args.number))
    c.args.sequence before now (ap (dump_answer c.args.at c.args.flags) (files_here c.args.front.now image c.args.number c.requires.published))
    (dump_sent c.args.at c.args.flags file files c.args.sequence c.pack_dump.new.out.sequence before c.new.result mid c.pack_dump.new.out.held now None whole bound
    (c.in_default.ensures.ok told image same) c.new.ensures (c.in_default.ensures.told told tells image same) (c.in_default-finish.ensures.told tells)
    (λ d. d.goes c.if-flags-eq-NO_WAITING.true))

pub returns-clause-told : goal.returns-clause-told
returns-clause-told g c told tells image same whole bound =
    let file : PublishedFile = file_at c.args.front.now image c.args.number in
    let files : List PublishedFile = files_on c.args.front.now image (c.args.number + 1) in
    let before : List ℕ = g.L.Link.written c.args.link.now in
    let mid : List ℕ = g.L.Link.written c.pack_dump.new.link in
    let now : List ℕ = g.L.Link.written c.finish.new.link in
    follows_as {X = Unit {0}} (Err Closed) (dump_answer c.args.at c.args.flags (file ∷ files)) (dump_answer c.args.at c.args.flags (files_on c.args.front.now image c.args.number))
    c.args.sequence before now (ap (dump_answer c.args.at c.args.flags) (files_here c.args.front.now image c.args.number c.requires.published))
    (dump_sent c.args.at c.args.flags file files c.args.sequence c.pack_dump.new.out.sequence before c.new.result mid c.pack_dump.new.out.held now (Some Closed) whole bound
    (c.in_default.ensures.ok told image same) c.new.ensures (c.in_default.ensures.told told tells image same) (c.in_default-finish.ensures.told tells)
    (λ d. d.closes c.if-flags-eq-NO_WAITING.false))
