-- A login: what the server sends, how it ends, and which bytes of the client are left, by its four steps.
use Rattle.std.specs.Prelude.{ℕ, ◌+◌, ◌%◌, Bool, true, false, not, List, [], ◌++◌, Option, None, Some}
use Rattle.std.specs.List.{find}
use Rattle.std.specs.Option.{option_map_or}
use Rattle.std.specs.Str.{bytes_eq}
use Rattle.cdc_base.specs.declared.user.User.{User}
use Rattle.cdc_packet.specs.Packet.{packet_bytes}
use Rattle.cdc_packet.specs.Request.{Request, NoRequest, CutShort, Oversized, Whole, next_request}
use Rattle.cdc_auth.specs.declared.login_end.LoginEnd.{LoginEnd}
use Rattle.cdc_auth.specs.declared.login_end.LoginEnd.TheVariants.{In, Denied, BadPacket, Closed}
use Rattle.cdc_auth.specs.Answer.{is_right_answer}
use Rattle.cdc_auth.specs.Credentials.{Credentials, credentials_in}
use Rattle.cdc_auth.specs.Greeting.{our_plugin, greeting, switch_request, welcome, refusal}

-- what the server sends, how the login ends, and the client's bytes behind it
pub record Login : Type 0 where
  pub reply : List ℕ
  pub ending : LoginEnd
  pub behind : List ℕ

-- a login of its parts
abbrev pub login_of : List ℕ → LoginEnd → List ℕ → Login
login_of reply ending behind = record { reply = reply; ending = ending; behind = behind }

-- a login before which something was sent
abbrev pub sent_before : List ℕ → Login → Login
sent_before sent login = login_of (sent ++ login.reply) login.ending login.behind

-- the packets of an answer to a packet with this number
abbrev pub answer_packets : ℕ → List ℕ → List ℕ
answer_packets sequence payload = packet_bytes ((sequence + 1) % 256) payload

-- there is a user of this name, and the answer is right for the first one's hash
abbrev pub is_admitted : List User → List ℕ → List ℕ → List ℕ → Bool
is_admitted users salt name answer =
    option_map_or (λ (user : User). is_right_answer user.hash salt answer) (find (λ (user : User). bytes_eq user.name name) users) false

-- the fourth step: the verdict, behind a packet with this number
abbrev pub fourth_step : Bool → ℕ → List ℕ → Login
fourth_step true sequence behind = login_of (answer_packets sequence welcome) In behind
fourth_step false sequence behind = login_of (answer_packets sequence refusal) Denied behind

-- a login in which nothing more is sent
abbrev pub broken_off : LoginEnd → Login
broken_off ending = login_of [] ending []

-- a login where a packet is due: Closed at the input's end, BadPacket inside a packet or before one that is too long,
-- else what comes of the packet's number, its payload and the bytes behind it
abbrev pub due_packet : (ℕ → List ℕ → List ℕ → Login) → Request → Login
due_packet next NoRequest = broken_off Closed
due_packet next CutShort = broken_off BadPacket
due_packet next Oversized = broken_off BadPacket
due_packet next (Whole sequence payload behind) = next sequence payload behind

-- the verdict on an answer that is a whole payload
abbrev pub decision_on : List User → List ℕ → List ℕ → ℕ → List ℕ → List ℕ → Login
decision_on users salt name sequence answer behind = fourth_step (is_admitted users salt name answer) sequence behind

-- the third step: where another plugin was named, the answer is asked for once more
abbrev pub third_step : List User → List ℕ → ℕ → List ℕ → Credentials → Bool → Login
third_step users salt sequence behind credentials true =
    sent_before (answer_packets sequence (switch_request salt)) (due_packet (decision_on users salt credentials.name) (next_request behind))
third_step users salt sequence behind credentials false = decision_on users salt credentials.name sequence credentials.answer behind

-- another plugin than this server's was named
abbrev pub names_other_plugin : Option (List ℕ) → Bool
names_other_plugin None = false
names_other_plugin (Some plugin) = not (bytes_eq plugin our_plugin)

-- behind the second step: the credentials were read, or the packet has none
abbrev pub judged : List User → List ℕ → ℕ → List ℕ → Option Credentials → Login
judged users salt sequence behind None = broken_off BadPacket
judged users salt sequence behind (Some credentials) = third_step users salt sequence behind credentials (names_other_plugin credentials.plugin)

-- the second step: what comes of the client's packet
abbrev pub second_step : List User → List ℕ → ℕ → List ℕ → List ℕ → Login
second_step users salt sequence payload behind = judged users salt sequence behind (credentials_in payload)

-- a login of these users at a door, with a salt, over all bytes that the client sends: first the greeting
abbrev pub login_reply : List User → ℕ → List ℕ → List ℕ → Login
login_reply users door salt input =
    sent_before (packet_bytes 0 (greeting door salt)) (due_packet (second_step users salt) (next_request input))
