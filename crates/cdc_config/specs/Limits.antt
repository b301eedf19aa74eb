-- The limits that a plan keeps.
use Rattle.std.specs.Prelude.{◌≡◌, ℕ, ◌≤◌, ◌^◌, length, List, Option}
use Rattle.std.specs.Option.{ForSome}
use Rattle.cdc_config.specs.declared.plan.Paths.{Paths}
use Rattle.cdc_config.specs.declared.plan.SplitPlan.{SplitPlan}
use Rattle.cdc_base.specs.declared.user.User.{User}

-- a number is within two bounds
pub record IsWithin (least most number : ℕ) : Type 0 where
  pub low : least ≤ number
  pub high : number ≤ most

-- a rotation size and a window
pub record AreSizes (rotation window : ℕ) : Type 0 where
  pub rotation_within : IsWithin 256 (2 ^ 30) rotation
  pub window_within : IsWithin 4096 (2 ^ 28) window

-- 1 to 256 nodes and 1 to 4 outs, each with its files, folder and address, and at most 256 users
pub record AreListed (nodes outs : ℕ) (paths : Paths) (users : List User) : Type 0 where
  pub nodes_within : IsWithin 1 256 nodes
  pub outs_within : IsWithin 1 4 outs
  pub node_files : length paths.node_files ≡ nodes
  pub out_folders : length paths.out_folders ≡ outs
  pub listen : length paths.listen ≡ outs
  pub users_within : length users ≤ 256

-- an out that there is, in 2 to 16 parts
pub record IsSplitInto (outs : ℕ) (split : SplitPlan) : Type 0 where
  pub from_within : IsWithin 1 outs split.from
  pub folders_within : IsWithin 2 16 (length split.folders)

-- the same, where there is one
abbrev pub IsSplit : ℕ → Option SplitPlan → Type 0
IsSplit outs split = ForSome split (IsSplitInto outs)
