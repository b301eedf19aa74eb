-- What a client says in its first packet of a login.
use Rattle.std.specs.Prelude.{ℕ, ◌+◌, ◌==◌, ◌&&◌, Bool, not, List, [], ◌∷◌, Option, None, Some, length, take, drop, nat_le, nat_lt, bit_and, if◌then◌else◌}
use Rattle.std.specs.List.{position_from}
use Rattle.std.specs.Option.{option_map, option_and_then}
use Rattle.cdc_event.specs.Number.{number_of}
use Rattle.cdc_auth.specs.declared.field.FieldView.{FieldView}
use Rattle.cdc_auth.specs.declared.credentials.CredentialsView.{CredentialsView}

-- a field of a packet, and what stands behind it
pub record Field : Type 0 where
  pub bytes : List ℕ
  pub behind : List ℕ

-- a field of a view
abbrev pub field_viewed : FieldView → Field
field_viewed view = record { bytes = view.bytes.now; behind = view.behind.now }

-- the bytes before a place as a field, and those from another place on behind it
abbrev pub field_at : List ℕ → ℕ → ℕ → Field
field_at bytes to from = record { bytes = take to bytes; behind = drop from bytes }

-- the field that ends with the first zero; none where there is no zero
abbrev pub zero_ended_field : List ℕ → Option Field
zero_ended_field bytes = option_map (λ at. field_at bytes at (at + 1)) (position_from (λ byte. byte == 0) 0 bytes)

-- the field whose first byte tells its length, which is at most so much; none where that is more, or the bytes end before
abbrev pub sized_field : ℕ → List ℕ → Option Field
sized_field most [] = None
sized_field most (size ∷ bytes) = if nat_le size most && nat_le size (length bytes) then Some (field_at bytes size size) else None

-- the bit of a client's capabilities that says: a database is named
abbrev pub connects_with_database : ℕ
connects_with_database = 8

-- the bit: the protocol is that of version 4.1
abbrev pub speaks_protocol_41 : ℕ
speaks_protocol_41 = 512

-- the bit: what follows goes over TLS
abbrev pub asks_for_tls : ℕ
asks_for_tls = 2048

-- the bit: the answer stands behind a byte with its length
abbrev pub sends_sized_answer : ℕ
sends_sized_answer = 32768

-- the bit: a plugin is named
abbrev pub names_plugin : ℕ
names_plugin = 524288

-- the bit: the answer stands behind a length-encoded length
abbrev pub sends_length_encoded_answer : ℕ
sends_length_encoded_answer = 2097152

-- the capabilities have a bit
abbrev pub has_capability : ℕ → ℕ → Bool
has_capability capabilities bit = not (bit_and capabilities bit == 0)

-- the answer: behind a length-encoded length, of which one byte of at most 250 is taken; behind a length of one byte; or
-- before a zero
abbrev pub answer_field : ℕ → List ℕ → Option Field
answer_field capabilities bytes =
    if has_capability capabilities sends_length_encoded_answer then sized_field 250 bytes
    else if has_capability capabilities sends_sized_answer then sized_field 255 bytes
    else zero_ended_field bytes

-- what stands behind the database, where one is named
abbrev pub behind_database : ℕ → List ℕ → Option (List ℕ)
behind_database capabilities bytes =
    if has_capability capabilities connects_with_database then option_map (λ (field : Field). field.behind) (zero_ended_field bytes)
    else Some bytes

-- the plugin, where one is named
abbrev pub plugin_field : ℕ → List ℕ → Option (Option (List ℕ))
plugin_field capabilities bytes =
    if has_capability capabilities names_plugin then option_map (λ (field : Field). Some field.bytes) (zero_ended_field bytes)
    else Some None

-- the user's name, the answer to the salt, and the plugin, where one was named
pub record Credentials : Type 0 where
  pub name : List ℕ
  pub answer : List ℕ
  pub plugin : Option (List ℕ)

-- the credentials of a view
abbrev pub credentials_viewed : CredentialsView → Credentials
credentials_viewed view = record { name = view.name.now; answer = view.answer.now; plugin = option_map (λ plugin. plugin.now) view.plugin }

-- credentials of their parts
abbrev pub credentials_of : List ℕ → List ℕ → Option (List ℕ) → Credentials
credentials_of name answer plugin = record { name = name; answer = answer; plugin = plugin }

-- the bytes before the user's name: capabilities, packet size, character set, and 23 that say nothing
abbrev pub fixed_fields : ℕ
fixed_fields = 32

-- the credentials behind a name and an answer
abbrev pub credentials_behind : ℕ → List ℕ → Field → Option Credentials
credentials_behind capabilities name answer =
    option_and_then (λ bytes. option_map (credentials_of name answer.bytes) (plugin_field capabilities bytes)) (behind_database capabilities answer.behind)

-- the credentials from the name on
abbrev pub credentials_from : ℕ → List ℕ → Option Credentials
credentials_from capabilities bytes =
    option_and_then (λ (name : Field). option_and_then (credentials_behind capabilities name.bytes) (answer_field capabilities name.behind)) (zero_ended_field bytes)

-- the credentials of a payload; none where it ends too early, or the client asks for TLS or speaks another protocol.
-- What follows the last field is passed over.
abbrev pub credentials_in : List ℕ → Option Credentials
credentials_in payload =
    if nat_lt (length payload) fixed_fields then None
    else if has_capability (number_of (take 4 payload)) asks_for_tls then None
    else if has_capability (number_of (take 4 payload)) speaks_protocol_41 then credentials_from (number_of (take 4 payload)) (drop fixed_fields payload)
    else None
