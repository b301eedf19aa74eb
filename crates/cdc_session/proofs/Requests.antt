-- How requests and the session follow their definitions.
use Rattle.std.proofs.Common.{◌≡◌, ℕ, ◌+◌, ◌%◌, List, [], ◌++◌, refl, sym, ◌∙◌, ap, subst, append_assoc, append-nil, add-one}
use Rattle.std.specs.Prelude.{Option, Some, None, Result, Ok, Err}
use Rattle.cdc_outside.specs.Sink.{WritesTo}
use Rattle.cdc_packet.specs.Request.{next_request, Request, ReadsRequest}
use Rattle.cdc_packet.specs.Request.Request.{NoRequest, CutShort, Oversized, Whole}
use Rattle.cdc_packet.specs.Command.{command_in}
use Rattle.cdc_packet.specs.declared.command.Command.TheVariants.{Quit as AskedToQuit}
use Rattle.cdc_packet.specs.declared.packet_end.PacketEnd.{PacketEnd}
use Rattle.cdc_packet.specs.declared.packet_end.PacketEnd.TheVariants as packet
use Rattle.cdc_session.specs.declared.session_end.SessionEnd.{SessionEnd}
use Rattle.cdc_session.specs.declared.session_end.SessionEnd.TheVariants.{Quit, Closed, BadPacket, LinkFault, DiskFault, Kept, Torn, Memory}
use Rattle.cdc_session.specs.Shelf.{Shelf}
use Rattle.cdc_session.specs.Ends.{end_of_packet}
use Rattle.cdc_session.specs.Reply.{Answer, Session, answer_to, packets_from, answered, answered_before, ended, session_from, session_within, session_over, most_requests}
use Rattle.cdc_session.specs.Following.{FollowsSession, EndsSession, Answered, FollowsAnswer, ServesOn, FollowsRequest}
use Rattle.cdc_session.proofs.Answering.{nothing_written, no_front}

-- ---- requests

-- one request more
within_more : (shelf : Shelf) (more : ℕ) (input : List ℕ) → session_within shelf (more + 1) input ≡ session_from shelf (session_within shelf more) (next_request input)
unfolding session_within
within_more shelf more input = ap (λ n. session_within shelf n input) (add-one more)

by_request : (shelf : Shelf) (more : ℕ) (input : List ℕ) (asked : Request) → next_request input ≡ asked
    → session_within shelf (more + 1) input ≡ session_from shelf (session_within shelf more) asked
by_request shelf more input asked e = within_more shelf more input ∙ ap (session_from shelf (session_within shelf more)) e

-- the session, in other words
session_as : (session other : Session) (before now : List ℕ) (ending : SessionEnd) → other ≡ session → FollowsSession session before now ending → FollowsSession other before now ending
session_as session other before now ending e h = subst (λ s. FollowsSession s before now ending) (sym e) h

-- an answer that ends the session
ends_so : (sequence : ℕ) (answer : Answer) (rest : Session) (ending : SessionEnd) → answer.ending ≡ Some ending
    → answered sequence answer rest ≡ record { reply = packets_from ((sequence + 1) % 256) answer.payloads; ending = ending }
ends_so sequence answer rest ending e = ap (λ o. answered_before (packets_from ((sequence + 1) % 256) answer.payloads) o rest) e

-- an answer's packets begin the rest of the session, whichever it is
begins : (sequence : ℕ) (answer : Answer) (rest : Session) (o : Option SessionEnd) → answer.ending ≡ o
    → (more : List ℕ) × ((answered sequence answer rest).reply ≡ packets_from ((sequence + 1) % 256) answer.payloads ++ more)
begins sequence answer rest None e = (rest.reply, ap (λ o. (answered_before (packets_from ((sequence + 1) % 256) answer.payloads) o rest).reply) e)
begins sequence answer rest (Some ending) e =
    ([], ap (λ o. (answered_before (packets_from ((sequence + 1) % 256) answer.payloads) o rest).reply) e ∙ sym (append-nil (packets_from ((sequence + 1) % 256) answer.payloads)))

front_of : (sequence : ℕ) (answer : Answer) (rest : Session) (before now : List ℕ) → WritesTo before (packets_from ((sequence + 1) % 256) answer.payloads) now
    → WritesTo before (answered sequence answer rest).reply now
front_of sequence answer rest before now w =
    let b = begins sequence answer rest answer.ending refl in
    (w.0, w.1 ++ b.0, b.1 ∙ ap (λ l. l ++ b.0) w.2 ∙ append_assoc w.0 w.1 b.0, w.3)

whole_of : (sequence : ℕ) (answer : Answer) (rest : Session) (before now : List ℕ) (ending : SessionEnd) → Answered answer (Some ending) ((sequence + 1) % 256) before now
    → EndsSession (answered sequence answer rest) before now ending
whole_of sequence answer rest before now ending h =
    let e = ends_so sequence answer rest ending h.ends in
    record { ends = ap (λ (s : Session). s.ending) e; written = h.written ∙ ap (λ (s : Session). before ++ s.reply) (sym e) }

-- how an answer's session goes
ends_session : (sequence : ℕ) (answer : Answer) (rest : Session) (before now : List ℕ) (ending : SessionEnd)
    → FollowsAnswer {X = Unit {0}} answer ((sequence + 1) % 256) before now (Err ending) → FollowsSession (answered sequence answer rest) before now ending
ends_session sequence answer rest before now Quit h = whole_of sequence answer rest before now Quit h
ends_session sequence answer rest before now Closed h = whole_of sequence answer rest before now Closed h
ends_session sequence answer rest before now BadPacket h = absurd h
ends_session sequence answer rest before now (Kept fault) h = whole_of sequence answer rest before now (Kept fault) h
ends_session sequence answer rest before now Torn h =
    record { ends = ap (λ (s : Session). s.ending) (ends_so sequence answer rest Torn h.ends); written = front_of sequence answer rest before now h.written }
ends_session sequence answer rest before now LinkFault h = front_of sequence answer rest before now h
ends_session sequence answer rest before now DiskFault h = front_of sequence answer rest before now h
ends_session sequence answer rest before now Memory h = front_of sequence answer rest before now h

-- a request that was read is answered
pub request_answered : (r : Result (Unit {0}) SessionEnd) (shelf : Shelf) (more sequence : ℕ) (input payload rest before now : List ℕ)
    → next_request input ≡ Whole sequence payload rest → FollowsAnswer (answer_to shelf (command_in payload)) ((sequence + 1) % 256) before now r
    → FollowsRequest shelf more input rest before now r
request_answered (Ok done) shelf more sequence input payload rest before now e h =
    let answer : Answer = answer_to shelf (command_in payload) in
    let session = by_request shelf more input (Whole sequence payload rest) e in
    let on : answered sequence answer (session_within shelf more rest)
    ≡ record { reply = packets_from ((sequence + 1) % 256) answer.payloads ++ (session_within shelf more rest).reply; ending = (session_within shelf more rest).ending } =
    ap (λ o. answered_before (packets_from ((sequence + 1) % 256) answer.payloads) o (session_within shelf more rest)) h.ends in
    record {
      gone = packets_from ((sequence + 1) % 256) answer.payloads;
      written = h.written;
      reply = ap (λ (s : Session). s.reply) (session ∙ on);
      ends = ap (λ (s : Session). s.ending) (session ∙ on);
    }
request_answered (Err ending) shelf more sequence input payload rest before now e h =
    session_as (answered sequence (answer_to shelf (command_in payload)) (session_within shelf more rest)) (session_within shelf (more + 1) input) before now ending
    (by_request shelf more input (Whole sequence payload rest) e)
    (ends_session sequence (answer_to shelf (command_in payload)) (session_within shelf more rest) before now ending h)

-- a session that ends with nothing more
ends_now : (shelf : Shelf) (more : ℕ) (input before : List ℕ) (request : Request) (ending : SessionEnd) → next_request input ≡ request
    → session_from shelf (session_within shelf more) request ≡ ended ending → EndsSession (session_within shelf (more + 1) input) before before ending
ends_now shelf more input before request ending e same =
    let session = by_request shelf more input request e ∙ same in
    record { ends = ap (λ (s : Session). s.ending) session; written = sym (append-nil before) ∙ ap (λ (s : Session). before ++ s.reply) (sym session) }

-- no request was read
pub no_request : (shelf : Shelf) (more : ℕ) (input was buffer rest before : List ℕ) (end : PacketEnd) → ReadsRequest input was buffer rest (Err end)
    → FollowsRequest {X = Unit {0}} shelf more input rest before before (Err (end_of_packet end))
no_request shelf more input was buffer rest before packet.Closed r = ends_now shelf more input before NoRequest Closed r.0 refl
no_request shelf more input was buffer rest before packet.Torn r = ends_now shelf more input before CutShort BadPacket r.0 refl
no_request shelf more input was buffer rest before packet.TooLong r = ends_now shelf more input before Oversized BadPacket r.0 refl
no_request shelf more input was buffer rest before packet.LinkFault r = no_front before (session_within shelf (more + 1) input).reply
no_request shelf more input was buffer rest before packet.Memory r = no_front before (session_within shelf (more + 1) input).reply

-- ---- the session

-- so many requests are still to come: what is written, and the rest, are the session's reply
pub record Serving (shelf : Shelf) (input left before now : List ℕ) (more : ℕ) : Type 0 where
  pub gone : List ℕ
  pub written : now ≡ before ++ gone
  pub reply : (session_over shelf input).reply ≡ gone ++ (session_within shelf more left).reply
  pub ends : (session_over shelf input).ending ≡ (session_within shelf more left).ending

pub serving_starts : (shelf : Shelf) (input before : List ℕ) → Serving shelf input input before before most_requests
unfolding session_over
serving_starts shelf input before = record { gone = []; written = sym (append-nil before); reply = refl; ends = refl }

pub serving_more : {shelf : Shelf} {input left before now : List ℕ} {more : ℕ} (less : ℕ) (later after : List ℕ) → Serving shelf input left before now more → less + 1 ≡ more
    → ServesOn shelf less left later now after → Serving shelf input later before after less
serving_more {shelf} {input} {left} {before} {now} {more} less later after s e g = record {
  gone = s.gone ++ g.gone;
  written = g.written ∙ ap (λ l. l ++ g.gone) s.written ∙ append_assoc before s.gone g.gone;
  reply = s.reply ∙ ap (λ n. s.gone ++ (session_within shelf n left).reply) (sym e) ∙ ap (λ l. s.gone ++ l) g.reply ∙ sym (append_assoc s.gone g.gone (session_within shelf less later).reply);
  ends = s.ends ∙ ap (λ n. (session_within shelf n left).ending) (sym e) ∙ g.ends;
}

serving_front : {shelf : Shelf} {input left before now after : List ℕ} {more : ℕ} → Serving shelf input left before now more → WritesTo now (session_within shelf more left).reply after
    → WritesTo before (session_over shelf input).reply after
serving_front {shelf} {input} {left} {before} {now} {after} {more} s w =
    (s.gone ++ w.0, w.1, s.reply ∙ ap (λ l. s.gone ++ l) w.2 ∙ sym (append_assoc s.gone w.0 w.1), w.3 ∙ ap (λ l. l ++ w.0) s.written ∙ append_assoc before s.gone w.0)

serving_whole : {shelf : Shelf} {input left before now after : List ℕ} {more : ℕ} (ending : SessionEnd) → Serving shelf input left before now more
    → EndsSession (session_within shelf more left) now after ending → EndsSession (session_over shelf input) before after ending
serving_whole {shelf} {input} {left} {before} {now} {after} {more} ending s h = record {
  ends = s.ends ∙ h.ends;
  written = h.written ∙ ap (λ l. l ++ (session_within shelf more left).reply) s.written ∙ append_assoc before s.gone _ ∙ ap (λ l. before ++ l) (sym s.reply);
}

-- the session ends where a request ends it
serving_ends_at : {shelf : Shelf} {input left before now : List ℕ} {more : ℕ} (after : List ℕ) (ending : SessionEnd) → Serving shelf input left before now more
    → FollowsSession (session_within shelf more left) now after ending → FollowsSession (session_over shelf input) before after ending
serving_ends_at after Quit s h = serving_whole Quit s h
serving_ends_at after Closed s h = serving_whole Closed s h
serving_ends_at after BadPacket s h = serving_whole BadPacket s h
serving_ends_at after (Kept fault) s h = serving_whole (Kept fault) s h
serving_ends_at after Torn s h = record { ends = s.ends ∙ h.ends; written = serving_front s h.written }
serving_ends_at after LinkFault s h = serving_front s h
serving_ends_at after DiskFault s h = serving_front s h
serving_ends_at after Memory s h = serving_front s h

pub serving_ends : {shelf : Shelf} {input left before now : List ℕ} {more : ℕ} (after : List ℕ) (less : ℕ) (ending : SessionEnd) → Serving shelf input left before now more → less + 1 ≡ more
    → FollowsSession (session_within shelf (less + 1) left) now after ending → FollowsSession (session_over shelf input) before after ending
serving_ends {shelf} {input} {left} {before} {now} {more} after less ending s e h =
    serving_ends_at after ending s (subst (λ n. FollowsSession (session_within shelf n left) now after ending) e h)

-- the session ends where no more requests are served
pub serving_over : {shelf : Shelf} {input left before now : List ℕ} {more : ℕ} → Serving shelf input left before now more → more ≡ 0 → FollowsSession (session_over shelf input) before now Closed
unfolding session_within
serving_over {shelf} {input} {left} {before} {now} {more} s none =
    let session : session_within shelf more left ≡ ended Closed = ap (λ n. session_within shelf n left) none in
    serving_whole Closed s record { ends = ap (λ (x : Session). x.ending) session; written = sym (append-nil now) ∙ ap (λ (x : Session). now ++ x.reply) (sym session) }

-- a client that quits
pub quits : (found : Shelf) (sequence : ℕ) (before : List ℕ) → Answered (answer_to found AskedToQuit) (Some Quit) sequence before before
quits found sequence before = record { ends = refl; written = nothing_written before sequence }
