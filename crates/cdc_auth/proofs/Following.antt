-- How the parts of a login join.
use Rattle.std.proofs.Common.{◌≡◌, ℕ, List, [], ◌++◌, refl, sym, ◌∙◌, ap, subst, inl, inr, append_assoc, append-nil}
use Rattle.std.specs.Prelude.{Ok, Err}
use Rattle.cdc_outside.specs.Sink.{WritesTo}
use Rattle.cdc_packet.specs.Request.{next_request, ReadsRequest}
use Rattle.cdc_packet.specs.declared.packet_end.PacketEnd.{PacketEnd}
use Rattle.cdc_packet.specs.declared.packet_end.PacketEnd.TheVariants as packet
use Rattle.cdc_packet.proofs.Sending.{writes_first, writes_after}
use Rattle.cdc_auth.specs.declared.login_end.LoginEnd.{LoginEnd}
use Rattle.cdc_auth.specs.declared.login_end.LoginEnd.TheVariants.{In, Denied, BadPacket, Closed, LinkFault, SaltFault, Memory}
use Rattle.cdc_auth.specs.Login.{Login, sent_before, due_packet, broken_off}
use Rattle.cdc_auth.specs.Following.{EndsLogin, FollowsLogin, IsStop, login_end_of}

-- a whole reply, behind what was sent before it
ends_behind : (login : Login) (sent before mid now : List ℕ) (ending : LoginEnd) → mid ≡ before ++ sent → EndsLogin login mid now ending
    → EndsLogin (sent_before sent login) before now ending
ends_behind login sent before mid now ending e h =
    record { ends = h.ends; written = h.written ∙ ap (λ m. m ++ login.reply) e ∙ append_assoc before sent login.reply }

-- behind what was sent, the rest of a login follows
pub follows_behind : (login : Login) (sent before mid now left : List ℕ) (ending : LoginEnd) → mid ≡ before ++ sent → FollowsLogin login mid now left ending
    → FollowsLogin (sent_before sent login) before now left ending
follows_behind login sent before mid now left In e h = (ends_behind login sent before mid now In e h.0, h.1)
follows_behind login sent before mid now left Denied e h = ends_behind login sent before mid now Denied e h
follows_behind login sent before mid now left BadPacket e h = ends_behind login sent before mid now BadPacket e h
follows_behind login sent before mid now left Closed e h = ends_behind login sent before mid now Closed e h
follows_behind login sent before mid now left LinkFault e w = writes_after before mid now sent login.reply e w
follows_behind login sent before mid now left Memory e w = writes_after before mid now sent login.reply e w
follows_behind login sent before mid now left SaltFault e h = absurd h

-- a login that stopped while it sent its first bytes
pub stopped_at : (login : Login) (sent before now left : List ℕ) (ending : LoginEnd) → IsStop ending → WritesTo before sent now
    → FollowsLogin (sent_before sent login) before now left ending
stopped_at login sent before now left ending stop w = elim stop [
  | inl e ↦ subst (λ x. FollowsLogin (sent_before sent login) before now left x) (sym e) (writes_first before now sent login.reply w)
  | inr e ↦ subst (λ x. FollowsLogin (sent_before sent login) before now left x) (sym e) (writes_first before now sent login.reply w)
]

-- nothing was written
nothing : (before : List ℕ) (login : Login) → WritesTo before login.reply before
nothing before login = ([], login.reply, refl, sym (append-nil before))

-- a login that ends with nothing more sent
pub breaks_off : (ending : LoginEnd) (before : List ℕ) → EndsLogin (broken_off ending) before before ending
breaks_off ending before = record { ends = refl; written = sym (append-nil before) }

-- no packet was read where one is due
pub no_packet : (next : ℕ → List ℕ → List ℕ → Login) (bytes buffer later rest before : List ℕ) (ended : PacketEnd) → ReadsRequest bytes buffer later rest (Err ended)
    → FollowsLogin (due_packet next (next_request bytes)) before before rest (login_end_of ended)
no_packet next bytes buffer later rest before packet.Closed r =
    subst (λ q. FollowsLogin (due_packet next q) before before rest Closed) (sym r.0) (breaks_off Closed before)
no_packet next bytes buffer later rest before packet.Torn r =
    subst (λ q. FollowsLogin (due_packet next q) before before rest BadPacket) (sym r.0) (breaks_off BadPacket before)
no_packet next bytes buffer later rest before packet.TooLong r =
    subst (λ q. FollowsLogin (due_packet next q) before before rest BadPacket) (sym r.0) (breaks_off BadPacket before)
no_packet next bytes buffer later rest before packet.LinkFault r = nothing before (due_packet next (next_request bytes))
no_packet next bytes buffer later rest before packet.Memory r = nothing before (due_packet next (next_request bytes))

-- the packet that is due was read
pub due_came : (next : ℕ → List ℕ → List ℕ → Login) (bytes payload rest before now left : List ℕ) (sequence : ℕ) (ending : LoginEnd)
    → ReadsRequest bytes [] payload rest (Ok sequence) → FollowsLogin (next sequence payload rest) before now left ending
    → FollowsLogin (due_packet next (next_request bytes)) before now left ending
due_came next bytes payload rest before now left sequence ending r h =
    subst (λ q. FollowsLogin (due_packet next q) before now left ending) (sym r.1) (subst (λ p. FollowsLogin (next sequence p rest) before now left ending) r.2 h)
