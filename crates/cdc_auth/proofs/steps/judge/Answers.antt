use Rattle.std.proofs.Common.{◌≡◌, Bool, true, subst, sym, ◌∙◌}
use Rattle.cdc_packet.specs.Request.{next_request}
use Rattle.cdc_auth.specs.Credentials.{Credentials, credentials_viewed}
use Rattle.cdc_auth.specs.Following.{FollowsLogin}
use Rattle.cdc_auth.specs.Greeting.{switch_request}
use Rattle.cdc_auth.specs.Login.{answer_packets, decision_on, due_packet, names_other_plugin, third_step}
use Rattle.cdc_auth.proofs.Following.{stopped_at}
use Rattle.cdc_auth.proofs.steps.judge.Goals as goal

pub returns-in-Err-clause-told : goal.returns-in-Err-clause-told
returns-in-Err-clause-told g c told =
    let said : Credentials = credentials_viewed c.args.credentials in
    let before = g.L.Link.written c.args.link.now in
    let input = g.L.Link.left c.args.link.now in
    let now = g.L.Link.written c.ask_again.new.link in
    let left = g.L.Link.left c.ask_again.new.link in
    let other : names_other_plugin said.plugin ≡ true = sym c.names_other.ensures ∙ c.if-names_other.true in
    subst (λ (b : Bool). FollowsLogin (third_step c.args.users.now c.args.salt.now c.args.sequence input said b) before now left c.in-Err.end) (sym other)
    (stopped_at (due_packet (decision_on c.args.users.now c.args.salt.now said.name) (next_request input)) (answer_packets c.args.sequence (switch_request c.args.salt.now))
    before now left c.in-Err.end c.in-Err.ensures.stopped (c.in-Err.ensures.err told))
