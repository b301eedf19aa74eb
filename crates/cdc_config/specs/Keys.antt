-- What each key of a configuration gives; none where the key is refused.
use Rattle.std.specs.Prelude.{◌≡◌, ℕ, ◌==◌, ◌&&◌, not, if◌then◌else◌, Bool, true, List, [], ◌∷◌, map, length, codes, is_none, Option, Some, None, option_map, option_and_then, Result, Ok, Err, ⊤}
use Rattle.std.specs.List.{list_all}
use Rattle.std.specs.Result.{result_ok}
use Rattle.hex.specs.Hex.{decode_sized}
use Rattle.toml.specs.Data.{Data, get, as_str}
use Rattle.cdc_base.specs.declared.rename.Rename.{Rename}
use Rattle.cdc_event.specs.Table.{rule_for}
use Rattle.cdc_config.specs.declared.keys.Outs.{Outs}
use Rattle.cdc_config.specs.declared.misfit.Misfit.{Misfit}
use Rattle.cdc_config.specs.declared.misfit.Misfit.TheVariants as misfit
use Rattle.cdc_config.specs.declared.parts.OutTable.{OutTable}
use Rattle.cdc_config.specs.declared.parts.TableNames.{TableNames}
use Rattle.cdc_config.specs.declared.plan.SplitPlan.{SplitPlan}
use Rattle.cdc_base.specs.declared.user.User.{User}
use Rattle.cdc_config.specs.declared.shape.Shape.TheVariants as shape
use Rattle.cdc_config.specs.Tree.{array_of, are_distinct, if_passed, is_among, is_shaped, path_text, sized_text, whole_number}

-- what stands at a key of a table
abbrev pub part_at : {A : Type 0} → (Data → Option A) → List ℕ → Data → Option A
part_at read key value = option_and_then read (get key value)

-- a whole number at a key, or a default where it isn't there
abbrev pub setting : ℕ → ℕ → ℕ → Option Data → Option ℕ
setting default least most None = Some default
setting default least most (Some value) = whole_number least most value

-- a list at a key, or no items where it isn't there
abbrev pub listed : {A : Type 0} → (Data → Option (List A)) → Option Data → Option (List A)
listed read None = Some []
listed read (Some value) = read value

-- `rotation`: 256 to 2 ^ 30, by default 2 ^ 29
unfoldable pub rotation_from : Data → Option ℕ
rotation_from root = setting 536870912 256 1073741824 (get (codes "rotation") root)

-- `window`: 4,096 to 2 ^ 28, by default 2 ^ 24
unfoldable pub window_from : Data → Option ℕ
window_from root = setting 16777216 4096 268435456 (get (codes "window") root)

-- one node: a table with 1 to 65,535 files
abbrev pub node_from : Data → Option (List (List ℕ))
node_from value = if is_shaped shape.Node value then part_at (array_of 1 65535 path_text) (codes "files") value else None

-- `node`: 1 to 256 of them
unfoldable pub nodes_from : Data → Option (List (List (List ℕ)))
nodes_from root = part_at (array_of 1 256 node_from) (codes "node") root

-- an address that may be left out, then empty
abbrev pub listen_from : Option Data → Option (List ℕ)
listen_from None = Some []
listen_from (Some value) = path_text value

-- one out: a table with a folder, and perhaps an address
abbrev pub out_from : Data → Option OutTable
out_from value =
    if is_shaped shape.Out value
    then option_and_then (λ folder. option_map (λ listen. record { folder = folder; listen = listen }) (listen_from (get (codes "listen") value))) (part_at path_text (codes "folder") value)
    else None

-- the folders of outs, and their addresses
abbrev pub folders_of : List OutTable → List (List ℕ)
folders_of outs = map (λ (out : OutTable). out.folder) outs

-- where each out listens; empty where it does not
abbrev pub addresses_of : List OutTable → List (List ℕ)
addresses_of outs = map (λ (out : OutTable). out.listen) outs

-- `out`: 1 to 4 of them, in distinct folders
unfoldable pub outs_from : Data → Option (List OutTable)
outs_from root = option_and_then (λ outs. if_passed (are_distinct (folders_of outs)) outs) (part_at (array_of 1 4 out_from) (codes "out") root)

-- one folder
abbrev pub folder_from : Data → Option (List ℕ)
folder_from value = if is_shaped shape.Task value then part_at path_text (codes "folder") value else None

-- `task`: a folder that isn't taken
unfoldable pub task_from : List (List ℕ) → Data → Option (List ℕ)
task_from taken root = option_and_then (λ folder. if_passed (not (is_among folder taken)) folder) (part_at folder_from (codes "task") root)

-- the names of a table
abbrev pub table_names : List ℕ → List ℕ → TableNames
table_names db table = record { db = db; table = table }

-- a database and a table, of 1 to 64 bytes each, at two keys
abbrev pub table_at : List ℕ → List ℕ → Data → Option TableNames
table_at db table value = option_and_then (λ d. option_map (table_names d) (part_at (sized_text 1 64) table value)) (part_at (sized_text 1 64) db value)

-- a rule from a table's names to others
abbrev pub rule_with : TableNames → TableNames → Rename
rule_with old new = record { db = old.db; table = old.table; to_db = new.db; to_table = new.table }

-- one rule: the names of a table, and its new names
abbrev pub rule_from : Data → Option Rename
rule_from value =
    if is_shaped shape.Table value
    then option_and_then (λ old. option_map (rule_with old) (table_at (codes "to_db") (codes "to_table") value)) (table_at (codes "db") (codes "table") value)
    else None

-- no two rules are for one table
abbrev pub are_apart : List Rename → Bool
are_apart [] = true
are_apart (rule ∷ rules) = is_none (rule_for rule.db rule.table rules) && are_apart rules

-- `table`: at most 65,536 rules, each for another table
unfoldable pub rules_from : Data → Option (List Rename)
rules_from root = option_and_then (λ rules. if_passed (are_apart rules) rules) (listed (array_of 0 65536 rule_from) (get (codes "table") root))

-- a user's name: 1 to 32 bytes, none of them zero
abbrev pub user_name : Data → Option (List ℕ)
user_name value = option_and_then (λ name. if_passed (list_all (λ byte. not (byte == 0)) name) name) (sized_text 1 32 value)

-- a user's hash: nothing, or 20 bytes in hexadecimal digits
abbrev pub hash_from : List ℕ → Option (Option (List ℕ))
hash_from text = if length text == 0 then Some None else option_map Some (result_ok (decode_sized text 20))

-- a user's password hash, or none where the text is empty
abbrev pub user_hash : Data → Option (Option (List ℕ))
user_hash value = option_and_then hash_from (as_str value)

-- one user
abbrev pub user_from : Data → Option User
user_from value =
    if is_shaped shape.User value
    then option_and_then (λ name. option_map (λ hash. record { name = name; hash = hash }) (part_at user_hash (codes "hash") value)) (part_at user_name (codes "name") value)
    else None

-- the names of users
abbrev pub names_of : List User → List (List ℕ)
names_of users = map (λ (user : User). user.name) users

-- `user`: where it is there, 1 to 256 users with distinct names
unfoldable pub users_from : Data → Option (List User)
users_from root = option_and_then (λ users. if_passed (are_distinct (names_of users)) users) (listed (array_of 1 256 user_from) (get (codes "user") root))

-- no two folders are equal, and none is taken
abbrev pub are_streams : List (List ℕ) → List (List ℕ) → Bool
are_streams taken folders = are_distinct folders && list_all (λ folder. not (is_among folder taken)) folders

-- 2 to 16 distinct folders that aren't taken
abbrev pub stream_folders : List (List ℕ) → Data → Option (List (List ℕ))
stream_folders taken value =
    option_and_then (λ folders. if_passed (are_streams taken folders) folders) (array_of 2 16 path_text value)

-- the table `split`: an out that there is, and folders
abbrev pub split_table : ℕ → List (List ℕ) → Data → Option SplitPlan
split_table outs taken value =
    if is_shaped shape.Split value
    then option_and_then (λ from. option_map (λ folders. record { from = from; folders = folders }) (part_at (stream_folders taken) (codes "folders") value)) (part_at (whole_number 1 outs) (codes "from") value)
    else None

-- how the output is split, or not at all where the key is absent
abbrev pub split_with : ℕ → List (List ℕ) → Option Data → Option (Option SplitPlan)
split_with outs taken None = Some None
split_with outs taken (Some value) = option_map Some (split_table outs taken value)

-- `split`: where it is there, an out of so many, split into folders that aren't taken
unfoldable pub split_from : ℕ → List (List ℕ) → Data → Option (Option SplitPlan)
split_from outs taken root = split_with outs taken (get (codes "split") root)

-- what an answer says of the outs: these are their folders and addresses; there are no outs; or nothing
abbrev pub GivesOuts : Result Outs Misfit → Option (List OutTable) → Type 0
GivesOuts (Ok outs) found = (option_map folders_of found ≡ Some outs.folders) × (option_map addresses_of found ≡ Some outs.listen)
GivesOuts (Err misfit.Refused) found = found ≡ None
GivesOuts (Err misfit.Memory) found = ⊤
