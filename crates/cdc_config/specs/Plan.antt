-- The plan that a configuration gives, or the first key that is refused.
use Rattle.std.specs.Prelude.{◌≡◌, ℕ, ◌&&◌, not, nat_le, if◌then◌else◌, Bool, true, List, [], ◌∷◌, ◌++◌, length, is_some, Option, Some, None, option_map, unwrap_or, Result, Ok, Err, ⊤}
use Rattle.std.specs.List.{find}
use Rattle.std.specs.Str.{is_utf8}
use Rattle.toml.specs.Data.{Data, table}
use Rattle.toml.specs.Parse.{parse_document}
use Rattle.cdc_config.specs.declared.command.ConfigKey.{ConfigKey}
use Rattle.cdc_config.specs.declared.command.ConfigKey.TheVariants as key
use Rattle.cdc_config.specs.declared.command.Refusal.{Refusal}
use Rattle.cdc_config.specs.declared.command.Refusal.TheVariants as refusal
use Rattle.cdc_config.specs.declared.misfit.Misfit.{Misfit}
use Rattle.cdc_config.specs.declared.misfit.Misfit.TheVariants as misfit
use Rattle.cdc_config.specs.declared.parts.OutTable.{OutTable}
use Rattle.cdc_config.specs.declared.plan.Paths.{Paths}
use Rattle.cdc_config.specs.declared.plan.Plan.{Plan}
use Rattle.cdc_config.specs.declared.shape.Shape.TheVariants as shape
use Rattle.cdc_config.specs.Filing.{AreNamesIn}
use Rattle.cdc_config.specs.Keys.{addresses_of, folders_of, nodes_from, outs_from, rotation_from, rules_from, split_from, task_from, users_from, window_from}
use Rattle.cdc_config.specs.Tree.{is_shaped}

-- the tree that a text of at most 2 ^ 20 bytes is in TOML
unfoldable pub tree_from : List ℕ → Option Data
tree_from text = if nat_le (length text) 1048576 && is_utf8 text then option_map table (parse_document text) else None

-- the outs, where there are any
abbrev pub outs_in : Data → List OutTable
outs_in root = unwrap_or (outs_from root) []

-- a folder that is none of the outs'
abbrev pub task_in : Data → Option (List ℕ)
task_in root = task_from (folders_of (outs_in root)) root

-- the folders of the outs and of the task
abbrev pub taken_in : Data → List (List ℕ)
taken_in root = folders_of (outs_in root) ++ unwrap_or (task_in root) [] ∷ []

-- whether a key of the tree is accepted
unfoldable pub accepts : Data → ConfigKey → Bool
accepts root key.Toml = true
accepts root key.Rotation = is_some (rotation_from root)
accepts root key.Window = is_some (window_from root)
accepts root key.Node = is_some (nodes_from root)
accepts root key.Out = is_some (outs_from root)
accepts root key.Task = is_some (task_in root)
accepts root key.Table = is_some (rules_from root)
accepts root key.User = is_some (users_from root)
accepts root key.Split = is_some (split_from (length (outs_in root)) (taken_in root) root)
accepts root key.Unknown = is_shaped shape.Top root

-- the keys in the order in which they are tested
abbrev pub tested_keys : List ConfigKey
tested_keys = key.Rotation ∷ key.Window ∷ key.Node ∷ key.Out ∷ key.Task ∷ key.Table ∷ key.User ∷ key.Split ∷ key.Unknown ∷ []

-- the first of some keys that is refused
abbrev pub refused_among : Data → List ConfigKey → Option ConfigKey
refused_among root keys = find (λ k. not (accepts root k)) keys

-- the first key of a tree that is refused; `toml` where there is none
abbrev pub refused_in : Option Data → Option ConfigKey
refused_in None = Some key.Toml
refused_in (Some root) = refused_among root tested_keys

-- the first key of a configuration that is refused
abbrev pub refused_key : List ℕ → Option ConfigKey
refused_key text = refused_in (tree_from text)

-- these paths are the tree's
pub record ArePaths (root : Data) (paths : Paths) : Type 0 where
  pub nodes_are : nodes_from root ≡ Some paths.node_files
  pub outs_are : option_map folders_of (outs_from root) ≡ Some paths.out_folders
  pub listen_are : option_map addresses_of (outs_from root) ≡ Some paths.listen
  pub task_is : task_in root ≡ Some paths.task_folder

-- the plan of a tree, key by key
pub record IsPlanIn (root : Data) (plan : Plan) : Type 0 where
  pub rotation_is : rotation_from root ≡ Some plan.rotation
  pub window_is : window_from root ≡ Some plan.window
  pub paths_are : ArePaths root plan.paths
  pub names_are : AreNamesIn root plan.names
  pub users_are : users_from root ≡ Some plan.users
  pub split_is : split_from (length (outs_in root)) (taken_in root) root ≡ Some plan.split
  pub no_other : is_shaped shape.Top root ≡ true

-- the plan of a configuration
abbrev pub IsPlanOf : List ℕ → Plan → Type 0
IsPlanOf text plan = (root : Data) × (tree_from text ≡ Some root) × IsPlanIn root plan

-- the refusal of a key that doesn't fit
abbrev pub refusal_at : Misfit → ConfigKey → Refusal
refusal_at misfit.Refused k = refusal.Config k
refusal_at misfit.Memory k = refusal.Memory

-- what an answer says of some keys: all are accepted, and this is so of the value; or this is the first that is refused;
-- want of memory says nothing
abbrev pub Judges : {A : Type 0} → Result A Refusal → Data → List ConfigKey → (A → Type 0) → Type 0
Judges (Ok value) root keys P = (refused_among root keys ≡ None) × P value
Judges (Err (refusal.Config k)) root keys P = refused_among root keys ≡ Some k
Judges (Err refusal.Usage) root keys P = ⊥
Judges (Err refusal.Memory) root keys P = ⊤

-- the same of a whole configuration
abbrev pub JudgesText : Result Plan Refusal → List ℕ → Type 0
JudgesText (Ok plan) text = (refused_key text ≡ None) × IsPlanOf text plan
JudgesText (Err (refusal.Config k)) text = refused_key text ≡ Some k
JudgesText (Err refusal.Usage) text = ⊥
JudgesText (Err refusal.Memory) text = ⊤
