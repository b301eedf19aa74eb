-- Which answer to a salt is right for a password's hash: what `mysql_native_password` asks.
use Rattle.std.specs.Prelude.{ℕ, ◌==◌, ◌&&◌, Bool, List, [], ◌∷◌, ◌++◌, Option, None, Some, length, bit_xor}
use Rattle.std.specs.Str.{bytes_eq}
use Rattle.sha1.specs.Sha1.{sha1}

-- two lists of bytes, joined by exclusive or byte by byte, as far as both go
abbrev pub xor_bytes : List ℕ → List ℕ → List ℕ
xor_bytes [] others = []
xor_bytes (byte ∷ bytes) [] = []
xor_bytes (byte ∷ bytes) (other ∷ others) = bit_xor byte other ∷ xor_bytes bytes others

-- the digest of what an answer hides behind the digest of salt and hash: the hash itself, where the answer was made
-- from the password
abbrev pub answered_hash : List ℕ → List ℕ → List ℕ → List ℕ
answered_hash hash salt answer = sha1 (xor_bytes answer (sha1 (salt ++ hash)))

-- the empty answer is right where the password is empty; else one of 20 bytes that hides the hash
abbrev pub is_right_answer : Option (List ℕ) → List ℕ → List ℕ → Bool
is_right_answer None salt answer = length answer == 0
is_right_answer (Some hash) salt answer = length answer == 20 && bytes_eq (answered_hash hash salt answer) hash
