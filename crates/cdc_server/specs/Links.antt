-- How links are served: a login where there are users, and behind it a session.
use Rattle.std.specs.Prelude.{◌≡◌, ℕ, ◌≤◌, List, [], ◌∷◌, ◌++◌, map, Option}
use Rattle.std.specs.List.{AllZip}
use Rattle.cdc_base.specs.declared.user.User.{User}
use Rattle.cdc_outside.specs.Link.{Served}
use Rattle.cdc_auth.specs.declared.login_end.LoginEnd.{LoginEnd}
use Rattle.cdc_auth.specs.declared.login_end.LoginEnd.TheVariants as login
use Rattle.cdc_auth.specs.Following.{FollowsDraw}
use Rattle.cdc_session.specs.declared.session_end.SessionEnd.{SessionEnd}
use Rattle.cdc_session.specs.Shelf.{Shelf}
use Rattle.cdc_session.specs.Reply.{session_over}
use Rattle.cdc_session.specs.Following.{FollowsSession}
use Rattle.cdc_server.specs.declared.link_end.LinkEnd.{LinkEnd}
use Rattle.cdc_server.specs.declared.link_end.LinkEnd.TheVariants.{OfSession, OfLogin}
use Rattle.cdc_server.specs.Numbers.{link_number}

-- the answer of each draw: the random bytes, or none for one that failed
abbrev pub DrawList : Type 0
DrawList = List (Option (List ℕ))

-- a link's session follows its definition
pub record FollowsOpen (shelf : Shelf) (input before now : List ℕ) (ending : LinkEnd) : Type 0 where
  pub session : SessionEnd
  pub ends : ending ≡ OfSession session
  pub follows : FollowsSession (session_over shelf input) before now session

-- what comes behind a login that ended so: a session over the bytes that it left, or nothing
abbrev pub FollowsBehind : Shelf → List ℕ → List ℕ → List ℕ → LoginEnd → LinkEnd → Type 0
FollowsBehind shelf left mid now login.In ending = FollowsOpen shelf left mid now ending
FollowsBehind shelf left mid now login.Denied ending = (ending ≡ OfLogin login.Denied) × (now ≡ mid)
FollowsBehind shelf left mid now login.BadPacket ending = (ending ≡ OfLogin login.BadPacket) × (now ≡ mid)
FollowsBehind shelf left mid now login.Closed ending = (ending ≡ OfLogin login.Closed) × (now ≡ mid)
FollowsBehind shelf left mid now login.LinkFault ending = (ending ≡ OfLogin login.LinkFault) × (now ≡ mid)
FollowsBehind shelf left mid now login.SaltFault ending = (ending ≡ OfLogin login.SaltFault) × (now ≡ mid)
FollowsBehind shelf left mid now login.Memory ending = (ending ≡ OfLogin login.Memory) × (now ≡ mid)

-- a link's login follows its definition over one draw, and what comes behind it follows
pub record FollowsUser (users : List User) (door : ℕ) (shelf : Shelf) (draws : DrawList) (input before now : List ℕ) (ending : LinkEnd) : Type 0 where
  pub draw : Option (List ℕ)
  pub one : draws ≡ draw ∷ []
  pub mid : List ℕ
  pub left : List ℕ
  pub login : LoginEnd
  pub follows : FollowsDraw users door draw input before mid left login
  pub behind : FollowsBehind shelf left mid now login ending

-- how a link is served: where there is no user there is no login, and nothing is drawn
abbrev pub FollowsLink : List User → ℕ → Shelf → DrawList → List ℕ → List ℕ → List ℕ → LinkEnd → Type 0
FollowsLink [] door shelf draws input before now ending = (draws ≡ []) × FollowsOpen shelf input before now ending
FollowsLink (user ∷ users) door shelf draws input before now ending = FollowsUser (user ∷ users) door shelf draws input before now ending

-- draws went on by these
abbrev pub Drew : {S : Type 0} → (S → DrawList → Type 0) → S → DrawList → S → Type 0
Drew drawn before draws now = (answers : DrawList) → drawn before answers → drawn now (answers ++ draws)

-- a link by its fault
abbrev pub IsLinkFault : LinkEnd → Type 0
IsLinkFault ending = link_number ending ≡ 4

-- a link that was served: what was drawn for it, and how it ended
pub record Visit : Type 0 where
  pub draws : DrawList
  pub ending : LinkEnd

-- a link that was handed back was served
pub record IsServed (users : List User) (door : ℕ) (shelf : Shelf) (visit : Visit) (entry : Served) : Type 0 where
  pub number : entry.ending ≡ link_number visit.ending
  pub follows : FollowsLink users door shelf visit.draws entry.input [] entry.written visit.ending
  pub failed : IsLinkFault visit.ending → 1 ≤ entry.faults

-- each of the links, in order
abbrev pub AreServed : List User → ℕ → Shelf → List Visit → List Served → Type 0
AreServed users door shelf visits entries = AllZip (IsServed users door shelf) visits entries

-- the links that a door gave out were handed back, each as it was served
pub record ServesLinks (users : List User) (door : ℕ) (shelf : Shelf) (visits : List Visit) (handed : List (List ℕ)) (served : List Served) (handed_now : List (List ℕ)) (served_now : List Served) : Type 0 where
  pub entries : List Served
  pub each : AreServed users door shelf visits entries
  pub given : handed_now ≡ handed ++ map (λ (entry : Served). entry.input) entries
  pub back : served_now ≡ served ++ entries
