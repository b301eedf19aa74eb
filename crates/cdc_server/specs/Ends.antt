-- What a door's links and its closing come to.
use Rattle.std.specs.Prelude.{◌≡◌, ◌⊎◌, ℕ, ◌≤◌, List}
use Rattle.std.specs.List.{Contains}
use Rattle.cdc_dumper.specs.declared.fault.OpenFault.{OpenFault}
use Rattle.cdc_auth.specs.declared.login_end.LoginEnd.TheVariants as login
use Rattle.cdc_session.specs.declared.session_end.SessionEnd.TheVariants as session
use Rattle.cdc_auth.specs.declared.login_end.LoginEnd.{LoginEnd}
use Rattle.cdc_session.specs.declared.session_end.SessionEnd.{SessionEnd}
use Rattle.cdc_server.specs.declared.door_end.DoorEnd.{DoorEnd}
use Rattle.cdc_server.specs.declared.door_end.DoorEnd.TheVariants.{Done, Disk, Kept, Torn, Memory, Door, Salt}
use Rattle.cdc_server.specs.declared.link_end.LinkEnd.{LinkEnd}
use Rattle.cdc_server.specs.declared.link_end.LinkEnd.TheVariants.{OfSession, OfLogin}
use Rattle.cdc_server.specs.Links.{Visit}

-- by how a session ended
abbrev pub session_cause : SessionEnd → DoorEnd
session_cause session.Quit = Done
session_cause session.Closed = Done
session_cause session.BadPacket = Done
session_cause session.LinkFault = Done
session_cause session.DiskFault = Disk
session_cause (session.Kept fault) = Kept fault
session_cause session.Torn = Torn
session_cause session.Memory = Memory

-- by how a login ended
abbrev pub login_cause : LoginEnd → DoorEnd
login_cause login.In = Done
login_cause login.Denied = Done
login_cause login.BadPacket = Done
login_cause login.Closed = Done
login_cause login.LinkFault = Done
login_cause login.SaltFault = Salt
login_cause login.Memory = Memory

-- by how a link ended
abbrev pub link_cause : LinkEnd → DoorEnd
link_cause (OfSession ending) = session_cause ending
link_cause (OfLogin ending) = login_cause ending

-- the order of causes
abbrev pub cause_rank : DoorEnd → ℕ
cause_rank Disk = 0
cause_rank (Kept fault) = 1
cause_rank Torn = 2
cause_rank Memory = 3
cause_rank Door = 4
cause_rank Salt = 5
cause_rank Done = 6

-- a cause that one of a door's links brought, or its closing
abbrev pub IsBrought : List Visit → DoorEnd → DoorEnd → Type 0
IsBrought visits closing cause = ((visit : Visit) × Contains visits visit × (link_cause visit.ending ≡ cause)) ⊎ (closing ≡ cause)

-- it was brought, and nothing that was brought stands before it
pub record IsFirstCause (visits : List Visit) (closing first : DoorEnd) : Type 0 where
  pub among : IsBrought visits closing first
  pub least : (cause : DoorEnd) → IsBrought visits closing cause → cause_rank first ≤ cause_rank cause

-- what stands behind an end of a link that wasn't the client's doing: the disk's fault, a refusal of the output, a torn
-- file, the salt's fault
pub record IsCaused (ending : LinkEnd) (disk : Type 0) (refused : OpenFault → Type 0) (torn salt : Type 0) : Type 0 where
  pub by_disk : ending ≡ OfSession session.DiskFault → disk
  pub by_output : (fault : OpenFault) → ending ≡ OfSession (session.Kept fault) → refused fault
  pub by_file : ending ≡ OfSession session.Torn → torn
  pub by_salt : ending ≡ OfLogin login.SaltFault → salt

-- a door's serving closes where the door is shut, or where it has failed
abbrev pub ClosesDoor : DoorEnd → Type 0 → Type 0 → Type 0
ClosesDoor closing shut failed = ((closing ≡ Done) × shut) ⊎ ((closing ≡ Door) × failed)
