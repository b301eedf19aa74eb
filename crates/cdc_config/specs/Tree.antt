-- What the values of a configuration's tree give.
use Rattle.std.specs.Prelude.{◌≡◌, ℕ, ◌==◌, ◌&&◌, not, nat_le, nat_eq, if◌then◌else◌, ℤ, pos, negsuc, Bool, true, false, List, [], ◌∷◌, length, codes, Option, Some, None, option_map, option_and_then, Result, Ok, Err, ⊤}
use Rattle.std.specs.List.{list_any}
use Rattle.std.specs.Cmp.Lexicographic.{pointwise}
use Rattle.toml.specs.Data.{Data, table, Items, no_items, item, Members, no_members, member, as_array, as_integer, as_str}
use Rattle.cdc_config.specs.declared.misfit.Misfit.{Misfit}
use Rattle.cdc_config.specs.declared.misfit.Misfit.TheVariants as misfit
use Rattle.cdc_config.specs.declared.shape.Shape.{Shape}
use Rattle.cdc_config.specs.declared.shape.Shape.TheVariants as shape

-- a value, where a test passes it
abbrev pub if_passed : {A : Type 0} → Bool → A → Option A
if_passed test value = if test then Some value else None

-- a text that isn't empty
abbrev pub path_text : Data → Option (List ℕ)
path_text value = option_and_then (λ text. if_passed (not (length text == 0)) text) (as_str value)

-- a text of so many bytes
abbrev pub sized_text : ℕ → ℕ → Data → Option (List ℕ)
sized_text least most value = option_and_then (λ text. if_passed (nat_le least (length text) && nat_le (length text) most) text) (as_str value)

-- a whole number within two bounds
abbrev pub number_between : ℕ → ℕ → ℤ → Option ℕ
number_between least most (pos number) = if_passed (nat_le least number && nat_le number most) number
number_between least most (negsuc number) = None

-- a whole number of a range, or none
abbrev pub whole_number : ℕ → ℕ → Data → Option ℕ
whole_number least most value = option_and_then (number_between least most) (as_integer value)

-- what a reading makes of each item; none where it makes nothing of one
abbrev pub each : {A : Type 0} → (Data → Option A) → Items → Option (List A)
each read no_items = Some []
each read (item value items) = option_and_then (λ part. option_map (λ parts. part ∷ parts) (each read items)) (read value)

-- an array of so many parts
abbrev pub array_of : {A : Type 0} → ℕ → ℕ → (Data → Option A) → Data → Option (List A)
array_of least most read value =
    option_and_then (λ items. option_and_then (λ parts. if_passed (nat_le least (length parts) && nat_le (length parts) most) parts) (each read items)) (as_array value)

-- the keys of each table of a configuration
abbrev pub keys_of : Shape → List (List ℕ)
keys_of shape.Top = codes "rotation" ∷ codes "window" ∷ codes "node" ∷ codes "out" ∷ codes "task" ∷ codes "table" ∷ codes "user" ∷ codes "split" ∷ []
keys_of shape.Node = codes "files" ∷ []
keys_of shape.Out = codes "folder" ∷ codes "listen" ∷ []
keys_of shape.Task = codes "folder" ∷ []
keys_of shape.Table = codes "db" ∷ codes "table" ∷ codes "to_db" ∷ codes "to_table" ∷ []
keys_of shape.User = codes "name" ∷ codes "hash" ∷ []
keys_of shape.Split = codes "from" ∷ codes "folders" ∷ []

-- a text is among others, byte for byte
abbrev pub is_among : List ℕ → List (List ℕ) → Bool
is_among text texts = list_any (pointwise nat_eq text) texts

-- each key is one of these
abbrev pub are_keys : List (List ℕ) → Members → Bool
are_keys keys no_members = true
are_keys keys (member key value rest) = is_among key keys && are_keys keys rest

-- a table without other keys than its shape's
abbrev pub is_shaped : Shape → Data → Bool
is_shaped kind (table members) = are_keys (keys_of kind) members
is_shaped kind _ = false

-- no two of the texts are equal
abbrev pub are_distinct : List (List ℕ) → Bool
are_distinct [] = true
are_distinct (text ∷ texts) = not (is_among text texts) && are_distinct texts

-- what an answer says of what a value gives: it gives no such thing where it is `Refused`, and want of memory says nothing
abbrev pub GivesPart : {A : Type 0} → Result A Misfit → Option A → Type 0
GivesPart (Ok read) found = found ≡ Some read
GivesPart (Err misfit.Refused) found = found ≡ None
GivesPart (Err misfit.Memory) found = ⊤
