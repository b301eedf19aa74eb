-- How outputs and the task go on through calls: nothing is lost at any moment.
use Rattle.std.specs.Prelude.{ℕ, List, [], ◌∷◌, ⊤}
use Rattle.std.specs.List.{AllByRecursion}
use Rattle.cdc_outside.specs.Disk.{Image, LeavesOnly}
use Rattle.cdc_model.specs.declared.node_log.NodeLog.{NodeLog}
use Rattle.cdc_model.specs.Records.{Transaction}
use Rattle.cdc_model.specs.Growth.{LogsGrow}
use Rattle.cdc_recovery.specs.Outputs.{OutputPlan, planned_transactions, KeepsFrom}
use Rattle.cdc_recovery.specs.Checkpoints.{KeepsTask}

-- each of some images has this
abbrev pub Each : (Image → Type 0) → (Image → Type 0) → Type 0
Each images P = (image : Image) → images image → P image

-- an output grows over a run: whatever least count all its images had before it, at every moment each image keeps at least
-- as many transactions
abbrev pub Grows : {D : Type 0} → (D → Image → Type 0) → (D → ℕ) → (D → ℕ → Image → Type 0) → OutputPlan → List Transaction → D → D → Type 0
Grows may_leave moment left_since plan txns old new =
    (least : ℕ) → Each (may_leave old) (KeepsFrom plan txns least) → LeavesOnly moment left_since old new (KeepsFrom plan txns least)

-- the task goes on over a run beside these outputs: at every moment each image is recoverable and has a record of the start
-- or one of at most so many transactions, and each image of each output keeps as many
pub record TaskKept {D : Type 0} (may_leave : D → Image → Type 0) (moment : D → ℕ) (left_since : D → ℕ → Image → Type 0) (plan : OutputPlan) (logs : List NodeLog) (txns : List Transaction) (outs : List D) (old new : D) (most : ℕ) : Type 0 where
  pub every_moment : LeavesOnly moment left_since old new (KeepsTask plan logs (may_leave old) most)
  pub covered : AllByRecursion (λ (disk : D). Each (may_leave disk) (KeepsFrom plan txns most)) outs

-- one pass over an output: the logs that it read, its disk as it was begun and as it was left
pub record OutputPass (D : Type 0) : Type 0 where
  pub logs : List NodeLog
  pub begun : D
  pub left : D

-- a pass follows another: its logs go on, and its disk has only what a crash at some moment of the other might have left
pub record FollowsPass {D : Type 0} (may_leave : D → Image → Type 0) (moment : D → ℕ) (left_since : D → ℕ → Image → Type 0) (pass next : OutputPass D) : Type 0 where
  pub goes_on : LogsGrow pass.logs next.logs
  pub stopped : (image : Image) → may_leave next.begun image → left_since pass.left (moment pass.begun) image

-- passes follow each other
abbrev pub AreInARow : {D : Type 0} → (D → Image → Type 0) → (D → ℕ) → (D → ℕ → Image → Type 0) → OutputPass D → List (OutputPass D) → Type 0
AreInARow may_leave moment left_since pass [] = ⊤
AreInARow may_leave moment left_since pass (next ∷ passes) = FollowsPass may_leave moment left_since pass next × AreInARow may_leave moment left_since next passes

-- in each of these passes the output grows
abbrev pub EachGrows : {D : Type 0} → (D → Image → Type 0) → (D → ℕ) → (D → ℕ → Image → Type 0) → OutputPlan → List (OutputPass D) → Type 0
EachGrows {D} may_leave moment left_since plan passes =
    AllByRecursion (λ (pass : OutputPass D). Grows may_leave moment left_since plan (planned_transactions plan pass.logs) pass.begun pass.left) passes

-- at every moment of each of these passes each image keeps at least so many of its logs' transactions
abbrev pub EachKeeps : {D : Type 0} → (D → ℕ) → (D → ℕ → Image → Type 0) → OutputPlan → ℕ → List (OutputPass D) → Type 0
EachKeeps {D} moment left_since plan least passes =
    AllByRecursion (λ (pass : OutputPass D). LeavesOnly moment left_since pass.begun pass.left (KeepsFrom plan (planned_transactions plan pass.logs) least)) passes
