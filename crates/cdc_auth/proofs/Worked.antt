-- Two logins worked out by hand, so that a wrong step of the definition does not check.
use Rattle.std.proofs.Common.{◌≡◌, ℕ, List, [], ◌∷◌, ◌++◌, take, drop, replicate, refl}
use Rattle.std.specs.Prelude.{None, codes}
use Rattle.cdc_base.specs.declared.user.User.{User}
use Rattle.cdc_event.specs.Number.{low_first, number_of}
use Rattle.cdc_packet.specs.Packet.{packets_of, packet_bytes}
use Rattle.cdc_auth.specs.declared.login_end.LoginEnd.TheVariants.{In, Denied, BadPacket, Closed}
use Rattle.cdc_auth.specs.Login.{login_reply}

-- a user with an empty password
abbrev pub repl : User
repl = record { name = codes "repl"; hash = None }

-- a client's packet with an empty answer and a plugin, and two bytes behind it
abbrev packet_of : ℕ → List ℕ → List ℕ → List ℕ
packet_of size name plugin =
    (size ∷ 0 ∷ 0 ∷ 1 ∷ 0 ∷ 130 ∷ 8 ∷ 0 ∷ 0 ∷ 0 ∷ 0 ∷ 1 ∷ 33 ∷ replicate 23 0) ++ name ++ (0 ∷ 0 ∷ plugin) ++ (0 ∷ 8 ∷ 9 ∷ [])

abbrev salt : List ℕ
salt = replicate 20 7

-- what is sent behind the greeting
abbrev sent_behind : List ℕ → List ℕ
sent_behind input = drop 81 (login_reply (repl ∷ []) 1 salt input).reply

pub greeted : take 5 (login_reply (repl ∷ []) 1 salt []).reply ≡ 77 ∷ 0 ∷ 0 ∷ 0 ∷ 10 ∷ []
unfolding packet_bytes packets_of low_first number_of
greeted = refl

pub closed : (login_reply (repl ∷ []) 1 salt []).ending ≡ Closed
unfolding packet_bytes packets_of low_first number_of
closed = refl

pub let_in : sent_behind (packet_of 60 (codes "repl") (codes "mysql_native_password")) ≡ 7 ∷ 0 ∷ 0 ∷ 2 ∷ 0 ∷ 0 ∷ 0 ∷ 2 ∷ 0 ∷ 0 ∷ 0 ∷ []
unfolding packet_bytes packets_of low_first number_of
let_in = refl

pub let_in_ends : (login_reply (repl ∷ []) 1 salt (packet_of 60 (codes "repl") (codes "mysql_native_password"))).ending ≡ In
unfolding packet_bytes packets_of low_first number_of
let_in_ends = refl

pub commands_left : (login_reply (repl ∷ []) 1 salt (packet_of 60 (codes "repl") (codes "mysql_native_password"))).behind ≡ 8 ∷ 9 ∷ []
unfolding packet_bytes packets_of low_first number_of
commands_left = refl

pub unknown_name : take 7 (sent_behind (packet_of 60 (codes "root") (codes "mysql_native_password"))) ≡ 22 ∷ 0 ∷ 0 ∷ 2 ∷ 255 ∷ 21 ∷ 4 ∷ []
unfolding packet_bytes packets_of low_first number_of
unknown_name = refl

pub unknown_name_ends : (login_reply (repl ∷ []) 1 salt (packet_of 60 (codes "root") (codes "mysql_native_password"))).ending ≡ Denied
unfolding packet_bytes packets_of low_first number_of
unknown_name_ends = refl

pub other_plugin : take 5 (sent_behind (packet_of 60 (codes "repl") (codes "caching_sha2_password"))) ≡ 44 ∷ 0 ∷ 0 ∷ 2 ∷ 254 ∷ []
unfolding packet_bytes packets_of low_first number_of
other_plugin = refl

-- behind it only two bytes of a head are left
pub other_plugin_ends : (login_reply (repl ∷ []) 1 salt (packet_of 60 (codes "repl") (codes "caching_sha2_password"))).ending ≡ BadPacket
unfolding packet_bytes packets_of low_first number_of
other_plugin_ends = refl
