use Rattle.std.proofs.Common.{◌≡◌, ℕ, ◌+◌, ◌%◌, List, ◌++◌, ap, sym, ◌∙◌, subst}
use Rattle.std.specs.Prelude.{Err}
use Rattle.cdc_packet.specs.Command.{command_in}
use Rattle.cdc_session.specs.declared.session_end.SessionEnd.{SessionEnd}
use Rattle.cdc_session.specs.Following.{FollowsAnswer, FollowsRequest}
use Rattle.cdc_session.specs.Reply.{answer_to}
use Rattle.cdc_session.proofs.Requests.{request_answered, no_request}
use Rattle.cdc_session.proofs.serving.serve_one.Goals as goal

pub returns-in-Ok-clause-told : goal.returns-in-Ok-clause-told
returns-in-Ok-clause-told g c told tells found more is =
    let input : List ℕ = g.L.Link.left c.args.link.now in
    let before : List ℕ = g.L.Link.written c.args.link.now in
    let mid : List ℕ = g.L.Link.written c.read_packet.new.link in
    let now : List ℕ = g.L.Link.written c.answer.new.link in
    let rest : List ℕ = g.L.Link.left c.read_packet.new.link in
    let came = c.in-Ok.ensures.told tells in
    let payload : c.read_packet.new.into ≡ came.0 = came.2 ∙ ap (λ (l : List ℕ). l ++ came.0) c.new-payload.ensures in
    let sequence : ℕ = (c.in-Ok.sequence + 1) % 256 in
    let first : FollowsAnswer (answer_to found (command_in c.read_packet.new.into)) sequence mid now c.answer.result = c.answer.ensures.told told tells found is in
    let second : FollowsAnswer (answer_to found (command_in came.0)) sequence mid now c.answer.result =
    subst (λ (p : List ℕ). FollowsAnswer (answer_to found (command_in p)) sequence mid now c.answer.result) payload first in
    let third : FollowsAnswer (answer_to found (command_in came.0)) sequence before now c.answer.result =
    subst (λ (w : List ℕ). FollowsAnswer (answer_to found (command_in came.0)) sequence w now c.answer.result) c.in-Ok.ensures.written second in
    let request = request_answered c.answer.result found more c.in-Ok.sequence input came.0 rest before now came.1 third in
    subst (λ (l : List ℕ). FollowsRequest found more input l before now c.answer.result) (sym c.answer.ensures.left) request

pub returns-in-Err-clause-told : goal.returns-in-Err-clause-told
returns-in-Err-clause-told g c told tells found more is =
    let input : List ℕ = g.L.Link.left c.args.link.now in
    let before : List ℕ = g.L.Link.written c.args.link.now in
    let rest : List ℕ = g.L.Link.left c.read_packet.new.link in
    let none = no_request found more input c.new-payload.result c.read_packet.new.into rest before c.in-Err.end (c.in-Err.ensures.told tells) in
    let ended = subst (λ (e : SessionEnd). FollowsRequest {X = Unit {0}} found more input rest before before (Err e)) (sym c.end_without.ensures) none in
    subst (λ (w : List ℕ). FollowsRequest {X = Unit {0}} found more input rest before w (Err c.end_without.result)) (sym c.in-Err.ensures.written) ended
