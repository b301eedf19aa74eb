-- The order of transactions' keys.
use Rattle.std.specs.Prelude.{◌≡◌, ℕ, List, []}
use Rattle.std.specs.Ordering.{nat_cmp, on, then_cmp}
use Rattle.std.specs.Cmp.Lexicographic.{slice_cmp}
use Rattle.std.specs.declared.cmp.Ordering.{Ordering}
use Rattle.std.specs.declared.cmp.Ordering.TheVariants.{Equal}
use Rattle.cdc_base.specs.declared.key.Key.{Key}
use Rattle.cdc_base.specs.declared.key.Key.TheVariants.{Shared, Plain}

-- the timestamp of a key
abbrev pub timestamp_of : Key → ℕ
timestamp_of (Shared timestamp gtrid) = timestamp
timestamp_of (Plain timestamp node entry) = timestamp

-- shared transactions come before local ones
abbrev pub class_of : Key → ℕ
class_of (Shared timestamp gtrid) = 0
class_of (Plain timestamp node entry) = 1

-- the id of a shared key
abbrev pub id_of : Key → List ℕ
id_of (Shared timestamp gtrid) = gtrid
id_of (Plain timestamp node entry) = []

-- the node of a local key
abbrev pub node_of : Key → ℕ
node_of (Shared timestamp gtrid) = 0
node_of (Plain timestamp node entry) = node

-- the entry number of a local key
abbrev pub entry_of : Key → ℕ
entry_of (Shared timestamp gtrid) = 0
entry_of (Plain timestamp node entry) = entry

-- by timestamp, then class, then id, then node and entry number; the class decides which of the last are there
abbrev pub key_order : Key → Key → Ordering
key_order = then_cmp (on timestamp_of nat_cmp) (then_cmp (on class_of nat_cmp) (then_cmp (on id_of (slice_cmp nat_cmp)) (then_cmp (on node_of nat_cmp) (on entry_of nat_cmp))))

-- keys tie exactly where all their parts are equal
abbrev pub SameKey : Type 0
SameKey = (a b : Key) → key_order a b ≡ Equal → a ≡ b

-- the key before all others
abbrev pub first_key : Key
first_key = Shared 0 []
