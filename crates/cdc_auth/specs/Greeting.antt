-- What the server says in a login, as payloads.
use Rattle.std.specs.Prelude.{ℕ, List, [], ◌∷◌, ◌++◌, take, drop, replicate, codes}
use Rattle.cdc_event.specs.Number.{low_first}

-- the one plugin by which this server tells a password
abbrev pub our_plugin : List ℕ
our_plugin = codes "mysql_native_password"

-- the version of the protocol, and the server's
abbrev pub version_field : List ℕ
version_field = 10 ∷ codes "5.7.0-cdc" ++ (0 ∷ [])

-- the capabilities 0x00088201 in two halves, around the character set and the status, and the length of the salt;
-- then ten zeros
abbrev pub capability_fields : List ℕ
capability_fields = 0 ∷ 1 ∷ 130 ∷ 33 ∷ 2 ∷ 0 ∷ 8 ∷ 0 ∷ 21 ∷ replicate 10 0

-- the greeting of a door, with a salt of 20 bytes
abbrev pub greeting : ℕ → List ℕ → List ℕ
greeting door salt =
    version_field ++ (low_first 4 door ++ (take 8 salt ++ (capability_fields ++ (drop 8 salt ++ (0 ∷ our_plugin ++ (0 ∷ []))))))

-- the request to answer once more, by the plugin of this server
abbrev pub switch_request : List ℕ → List ℕ
switch_request salt = 254 ∷ our_plugin ++ (0 ∷ salt ++ (0 ∷ []))

-- the client is let in
abbrev pub welcome : List ℕ
welcome = 0 ∷ 0 ∷ 0 ∷ 2 ∷ 0 ∷ 0 ∷ 0 ∷ []

-- the client is refused
abbrev pub refusal : List ℕ
refusal = 255 ∷ 21 ∷ 4 ∷ codes "#28000access denied"
