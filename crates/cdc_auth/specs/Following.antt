-- How a login was held: what it leaves of what the definition says.
use Rattle.std.specs.Prelude.{◌≡◌, ◌⊎◌, ℕ, List, ◌++◌, Option, None, Some, [], ◌∷◌}
use Rattle.cdc_base.specs.declared.user.User.{User}
use Rattle.cdc_outside.specs.Sink.{WritesTo}
use Rattle.cdc_packet.specs.declared.packet_end.PacketEnd.{PacketEnd}
use Rattle.cdc_packet.specs.declared.packet_end.PacketEnd.TheVariants as packet
use Rattle.cdc_auth.specs.declared.login_end.LoginEnd.{LoginEnd}
use Rattle.cdc_auth.specs.declared.login_end.LoginEnd.TheVariants.{In, Denied, BadPacket, Closed, LinkFault, SaltFault, Memory}
use Rattle.cdc_auth.specs.Login.{Login, login_reply}

-- the login has ended as the definition says, and its whole reply was written
pub record EndsLogin (login : Login) (before now : List ℕ) (ending : LoginEnd) : Type 0 where
  pub ends : login.ending ≡ ending
  pub written : now ≡ before ++ login.reply

-- what was written and what is left of the client's bytes, by the answer
abbrev pub FollowsLogin : Login → List ℕ → List ℕ → List ℕ → LoginEnd → Type 0
FollowsLogin login before now left In = EndsLogin login before now In × (left ≡ login.behind)
FollowsLogin login before now left Denied = EndsLogin login before now Denied
FollowsLogin login before now left BadPacket = EndsLogin login before now BadPacket
FollowsLogin login before now left Closed = EndsLogin login before now Closed
FollowsLogin login before now left LinkFault = WritesTo before login.reply now
FollowsLogin login before now left Memory = WritesTo before login.reply now
FollowsLogin login before now left SaltFault = ⊥

-- the end of a login in which no packet was read
abbrev pub login_end_of : PacketEnd → LoginEnd
login_end_of packet.Closed = Closed
login_end_of packet.Torn = BadPacket
login_end_of packet.TooLong = BadPacket
login_end_of packet.LinkFault = LinkFault
login_end_of packet.Memory = Memory

-- a login stops before its end for want of memory or by the link's fault alone
abbrev pub IsStop : LoginEnd → Type 0
IsStop ending = (ending ≡ Memory) ⊎ (ending ≡ LinkFault)

-- without a salt nothing is said and nothing is read; with one the login follows its definition
abbrev pub FollowsDraw : List User → ℕ → Option (List ℕ) → List ℕ → List ℕ → List ℕ → List ℕ → LoginEnd → Type 0
FollowsDraw users door None input before now left ending = (ending ≡ SaltFault) × (now ≡ before) × (left ≡ input)
FollowsDraw users door (Some salt) input before now left ending = FollowsLogin (login_reply users door salt input) before now left ending

-- this was the answer to one draw
abbrev pub Draws : {S : Type 0} → (S → List (Option (List ℕ)) → Type 0) → S → Option (List ℕ) → S → Type 0
Draws drawn before draw now = (answers : List (Option (List ℕ))) → drawn before answers → drawn now (answers ++ draw ∷ [])
