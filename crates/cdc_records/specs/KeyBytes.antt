-- Keys and flags as the bytes of a record, numbers with the lowest byte first.
use Rattle.std.specs.Prelude.{ℕ, ◌≤◌, ◌<◌, ◌^◌, Bool, true, false, List, ◌∷◌, ◌++◌, length}
use Rattle.cdc_base.specs.declared.key.Key.{Key}
use Rattle.cdc_base.specs.declared.key.Key.TheVariants.{Shared, Plain}
use Rattle.cdc_event.specs.Number.{low_first}

-- a flag as a byte
abbrev pub flag_byte : Bool → ℕ
flag_byte false = 0
flag_byte true = 1

-- a key: its timestamp, its class, and for a shared one the id behind its length, for a local one node and entry
abbrev pub key_bytes : Key → List ℕ
key_bytes (Shared timestamp gtrid) = low_first 8 timestamp ++ (0 ∷ (length gtrid ∷ gtrid))
key_bytes (Plain timestamp node entry) = low_first 8 timestamp ++ (1 ∷ (low_first 4 node ++ low_first 8 entry))

-- a key's parts fit into their bytes, and an id has at most 64 bytes
abbrev pub IsRecordKey : Key → Type 0
IsRecordKey (Shared timestamp gtrid) = (timestamp < 2 ^ 64) × (length gtrid ≤ 64)
IsRecordKey (Plain timestamp node entry) = (timestamp < 2 ^ 64) × (node < 2 ^ 32) × (entry < 2 ^ 64)
