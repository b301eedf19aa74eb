-- The number that a link is handed back with.
use Rattle.std.specs.Prelude.{ℕ}
use Rattle.cdc_auth.specs.declared.login_end.LoginEnd.{LoginEnd}
use Rattle.cdc_auth.specs.declared.login_end.LoginEnd.TheVariants as login
use Rattle.cdc_session.specs.declared.session_end.SessionEnd.{SessionEnd}
use Rattle.cdc_session.specs.declared.session_end.SessionEnd.TheVariants as session
use Rattle.cdc_server.specs.declared.link_end.LinkEnd.{LinkEnd}
use Rattle.cdc_server.specs.declared.link_end.LinkEnd.TheVariants.{OfSession, OfLogin}

-- of a session that ended so
abbrev pub session_number : SessionEnd → ℕ
session_number session.Quit = 1
session_number session.Closed = 2
session_number session.BadPacket = 3
session_number session.LinkFault = 4
session_number session.DiskFault = 5
session_number (session.Kept fault) = 6
session_number session.Torn = 7
session_number session.Memory = 8

-- of a login that ended so; behind In a session ends
abbrev pub login_number : LoginEnd → ℕ
login_number login.In = 0
login_number login.Closed = 2
login_number login.BadPacket = 3
login_number login.LinkFault = 4
login_number login.Memory = 8
login_number login.Denied = 9
login_number login.SaltFault = 10

-- of a link that ended so
abbrev pub link_number : LinkEnd → ℕ
link_number (OfSession ending) = session_number ending
link_number (OfLogin ending) = login_number ending
