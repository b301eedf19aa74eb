use Rattle.std.proofs.Common.{ℕ, List, sym, subst}
use Rattle.std.specs.Prelude.{Some}
use Rattle.cdc_packet.specs.declared.command.Command.{Command}
use Rattle.cdc_session.specs.declared.session_end.SessionEnd.TheVariants.{Quit}
use Rattle.cdc_session.specs.Following.{FollowsAnswer, Answered}
use Rattle.cdc_session.specs.Reply.{answer_to}
use Rattle.cdc_session.proofs.Requests.{quits}
use Rattle.cdc_session.proofs.serving.obey.Goals as goal

pub returns-in-Quit-clause-told : goal.returns-in-Quit-clause-told
returns-in-Quit-clause-told g c told tells found is =
    let before : List ℕ = g.L.Link.written c.args.link.now in
    subst (λ (k : Command). Answered (answer_to found k) (Some Quit) c.args.sequence before before) (sym c.in-Quit.is) (quits found c.args.sequence before)

pub returns-in-Unknown-clause-told : goal.returns-in-Unknown-clause-told
returns-in-Unknown-clause-told g c told tells found is =
    let before : List ℕ = g.L.Link.written c.args.link.now in
    let now : List ℕ = g.L.Link.written c.send.new.link in
    subst (λ (k : Command). FollowsAnswer (answer_to found k) c.args.sequence before now c.send.result) (sym c.in-Unknown.is) (c.send.ensures.told tells)
