-- The parts of a plan, as they are read one after another.
use Rattle.std.specs.Prelude.{◌≡◌, ℕ, ◌≤◌, true, List, [], ◌∷◌, length, Option, Some, None, Result, Ok, Err, ⊤}
use Rattle.toml.specs.Data.{Data}
use Rattle.toml.specs.View.{view}
use Rattle.toml.specs.declared.value.Value.{Value}
use Rattle.cdc_config.specs.declared.command.ConfigKey.{ConfigKey}
use Rattle.cdc_config.specs.declared.command.ConfigKey.TheVariants as key
use Rattle.cdc_config.specs.declared.judging.Extras.{Extras}
use Rattle.cdc_config.specs.declared.judging.Sizes.{Sizes}
use Rattle.cdc_config.specs.declared.misfit.Misfit.{Misfit}
use Rattle.cdc_config.specs.declared.misfit.Misfit.TheVariants as misfit
use Rattle.cdc_config.specs.declared.plan.Paths.{Paths}
use Rattle.cdc_config.specs.declared.plan.Plan.{Plan}
use Rattle.cdc_config.specs.declared.plan.SplitPlan.{SplitPlan}
use Rattle.cdc_config.specs.declared.shape.Shape.TheVariants as shape
use Rattle.cdc_config.specs.Filing.{AreNamesIn}
use Rattle.cdc_config.specs.Keys.{rotation_from, split_from, users_from, window_from}
use Rattle.cdc_config.specs.Limits.{IsSplit, IsWithin}
use Rattle.cdc_config.specs.Plan.{outs_in, taken_in}
use Rattle.cdc_config.specs.Tree.{is_shaped}

-- the keys in three parts
abbrev pub size_keys : List ConfigKey
size_keys = key.Rotation ∷ key.Window ∷ []

-- the keys of what is read and written, in the order in which they are tested
abbrev pub path_keys : List ConfigKey
path_keys = key.Node ∷ key.Out ∷ key.Task ∷ []

-- the keys that may be left out, and unknown ones, in the order in which they are tested
abbrev pub extra_keys : List ConfigKey
extra_keys = key.Table ∷ key.User ∷ key.Split ∷ key.Unknown ∷ []

-- the rotation size and the window of a tree
pub record AreSizesIn (root : Data) (sizes : Sizes) : Type 0 where
  pub rotation_is : rotation_from root ≡ Some sizes.rotation
  pub window_is : window_from root ≡ Some sizes.window

-- paths of 1 to 256 nodes and of 1 to 4 outs
pub record AreSized (paths : Paths) : Type 0 where
  pub nodes_within : IsWithin 1 256 (length paths.node_files)
  pub outs_within : IsWithin 1 4 (length paths.out_folders)
  pub each_listens : length paths.listen ≡ length paths.out_folders

-- the split of a tree
abbrev pub split_given : Data → Option (Option SplitPlan)
split_given root = split_from (length (outs_in root)) (taken_in root) root

-- names, users and split of a tree without other keys
pub record AreExtras (root : Data) (extras : Extras) : Type 0 where
  pub names_are : AreNamesIn root extras.names
  pub users_are : users_from root ≡ Some extras.users
  pub split_is : split_given root ≡ Some extras.split
  pub no_other : is_shaped shape.Top root ≡ true

-- at most 256 users, and a split of so many outs
pub record IsExtraSized (outs : ℕ) (extras : Extras) : Type 0 where
  pub users_within : length extras.users ≤ 256
  pub split_within : IsSplit outs extras.split

-- a plan of these parts
pub record IsMadeOf (sizes : Sizes) (parts : Paths) (extras : Extras) (plan : Plan) : Type 0 where
  pub rotation_is : plan.rotation ≡ sizes.rotation
  pub window_is : plan.window ≡ sizes.window
  pub paths_are : plan.paths ≡ parts
  pub names_are : plan.names ≡ extras.names
  pub users_are : plan.users ≡ extras.users
  pub split_is : plan.split ≡ extras.split

-- what an answer says of a text's tree
abbrev pub GivesTree : Result Value Misfit → Option Data → Type 0
GivesTree (Ok root) found = found ≡ Some (view root)
GivesTree (Err misfit.Refused) found = found ≡ None
GivesTree (Err misfit.Memory) found = ⊤
