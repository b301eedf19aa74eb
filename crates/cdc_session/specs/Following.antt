-- How a session follows its definition.
use Rattle.std.specs.Prelude.{◌≡◌, ℕ, ◌+◌, List, ◌++◌, Option, Some, None, Result, Ok, Err}
use Rattle.cdc_outside.specs.Sink.{WritesTo}
use Rattle.cdc_session.specs.declared.session_end.SessionEnd.{SessionEnd}
use Rattle.cdc_session.specs.declared.session_end.SessionEnd.TheVariants.{Quit, Closed, BadPacket, LinkFault, DiskFault, Kept, Torn, Memory}
use Rattle.cdc_session.specs.Shelf.{Shelf}
use Rattle.cdc_session.specs.Reply.{Session, Answer, packets_from, session_within}

-- a session ended so, and all of its reply was written
pub record EndsSession (session : Session) (before now : List ℕ) (ending : SessionEnd) : Type 0 where
  pub ends : session.ending ≡ ending
  pub written : now ≡ before ++ session.reply

-- a session ended at a torn file, and a front of its reply was written
pub record EndsTorn (session : Session) (before now : List ℕ) : Type 0 where
  pub ends : session.ending ≡ Torn
  pub written : WritesTo before session.reply now

-- how a session that ended so follows its definition
abbrev pub FollowsSession : Session → List ℕ → List ℕ → SessionEnd → Type 0
FollowsSession session before now Quit = EndsSession session before now Quit
FollowsSession session before now Closed = EndsSession session before now Closed
FollowsSession session before now BadPacket = EndsSession session before now BadPacket
FollowsSession session before now (Kept fault) = EndsSession session before now (Kept fault)
FollowsSession session before now Torn = EndsTorn session before now
FollowsSession session before now LinkFault = WritesTo before session.reply now
FollowsSession session before now DiskFault = WritesTo before session.reply now
FollowsSession session before now Memory = WritesTo before session.reply now

-- all packets of an answer were written, and so the session goes on, or ends
pub record Answered (answer : Answer) (ending : Option SessionEnd) (sequence : ℕ) (before now : List ℕ) : Type 0 where
  pub ends : answer.ending ≡ ending
  pub written : now ≡ before ++ packets_from sequence answer.payloads

-- a front of an answer's packets was written, and the session ends at a torn file
pub record AnsweredTorn (answer : Answer) (sequence : ℕ) (before now : List ℕ) : Type 0 where
  pub ends : answer.ending ≡ Some Torn
  pub written : WritesTo before (packets_from sequence answer.payloads) now

-- how a request is answered, its first packet under this number
abbrev pub FollowsAnswer : {X : Type 0} → Answer → ℕ → List ℕ → List ℕ → Result X SessionEnd → Type 0
FollowsAnswer answer sequence before now (Ok done) = Answered answer None sequence before now
FollowsAnswer answer sequence before now (Err Quit) = Answered answer (Some Quit) sequence before now
FollowsAnswer answer sequence before now (Err Closed) = Answered answer (Some Closed) sequence before now
FollowsAnswer answer sequence before now (Err BadPacket) = ⊥
FollowsAnswer answer sequence before now (Err (Kept fault)) = Answered answer (Some (Kept fault)) sequence before now
FollowsAnswer answer sequence before now (Err Torn) = AnsweredTorn answer sequence before now
FollowsAnswer answer sequence before now (Err LinkFault) = WritesTo before (packets_from sequence answer.payloads) now
FollowsAnswer answer sequence before now (Err DiskFault) = WritesTo before (packets_from sequence answer.payloads) now
FollowsAnswer answer sequence before now (Err Memory) = WritesTo before (packets_from sequence answer.payloads) now

-- a request was answered: the rest of the session is that over the bytes that are left
pub record ServesOn (shelf : Shelf) (more : ℕ) (input left before now : List ℕ) : Type 0 where
  pub gone : List ℕ
  pub written : now ≡ before ++ gone
  pub reply : (session_within shelf (more + 1) input).reply ≡ gone ++ (session_within shelf more left).reply
  pub ends : (session_within shelf (more + 1) input).ending ≡ (session_within shelf more left).ending

-- how one request is served, of at most so many and one
abbrev pub FollowsRequest : {X : Type 0} → Shelf → ℕ → List ℕ → List ℕ → List ℕ → List ℕ → Result X SessionEnd → Type 0
FollowsRequest shelf more input left before now (Ok done) = ServesOn shelf more input left before now
FollowsRequest shelf more input left before now (Err ending) = FollowsSession (session_within shelf (more + 1) input) before now ending
