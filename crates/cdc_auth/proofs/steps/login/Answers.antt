use Rattle.std.proofs.Common.{List, ℕ, subst}
use Rattle.std.specs.Prelude.{Some}
use Rattle.cdc_packet.specs.Packet.{packet_bytes}
use Rattle.cdc_packet.specs.Request.{next_request}
use Rattle.cdc_auth.specs.Following.{FollowsLogin}
use Rattle.cdc_auth.specs.Greeting.{greeting}
use Rattle.cdc_auth.specs.Login.{due_packet, second_step}
use Rattle.cdc_auth.proofs.Following.{follows_behind, stopped_at}
use Rattle.cdc_auth.proofs.steps.login.Goals as goal

pub returns-in-Ok-greet-clause-told : goal.returns-in-Ok-greet-clause-told
returns-in-Ok-greet-clause-told g c = (
  Some c.in-Ok.bytes,
  λ told. c.in-Ok.ensures.drawn told,
  λ told.
      let input = g.L.Link.left c.args.link.now in
      let before = g.L.Link.written c.args.link.now in
      let mid = g.L.Link.written c.greet.new.link in
      let now = g.L.Link.written c.take_credentials.new.link in
      let left = g.L.Link.left c.take_credentials.new.link in
      let rest : FollowsLogin (due_packet (second_step c.args.users.now c.in-Ok.bytes) (next_request input)) mid now left c.take_credentials.result =
      subst (λ (l : List ℕ). FollowsLogin (due_packet (second_step c.args.users.now c.in-Ok.bytes) (next_request l)) mid now left c.take_credentials.result)
      c.in-Ok-greet.ensures.left (c.take_credentials.ensures.told told) in
      follows_behind (due_packet (second_step c.args.users.now c.in-Ok.bytes) (next_request input)) (packet_bytes 0 (greeting c.args.door c.in-Ok.bytes))
      before mid now left c.take_credentials.result (c.in-Ok-greet.ensures.ok told) rest,
)

pub returns-in-Err-clause-told : goal.returns-in-Err-clause-told
returns-in-Err-clause-told g c = (
  Some c.in-Ok.bytes,
  λ told. c.in-Ok.ensures.drawn told,
  λ told.
      stopped_at (due_packet (second_step c.args.users.now c.in-Ok.bytes) (next_request (g.L.Link.left c.args.link.now)))
      (packet_bytes 0 (greeting c.args.door c.in-Ok.bytes)) (g.L.Link.written c.args.link.now) (g.L.Link.written c.greet.new.link) (g.L.Link.left c.greet.new.link)
      c.in-Err.end c.in-Err.ensures.stopped (c.in-Err.ensures.err told),
)
