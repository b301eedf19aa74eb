-- What the opening of the task answers where it refuses, and what it leaves.
use Rattle.std.specs.Prelude.{◌≡◌, ℕ, ◌≤◌, Bool, IsTrue, List, ⊤}
use Rattle.std.specs.List.{AllByRecursion}
use Rattle.cdc_outside.specs.Disk.{Image, LeavesOnly}
use Rattle.cdc_opening.specs.declared.outcome.Outcome.{Outcome}
use Rattle.cdc_opening.specs.declared.outcome.Outcome.TheVariants.{Done, Disk, TaskDisk, Read, Memory, TooLarge, Node, Open, Task, Behind, Differs, Key}
use Rattle.cdc_opening.specs.OpenOuts.{CanOpen, OpenBefore, IsOutRefused}
use Rattle.cdc_opening.specs.Answers.{IsTaskRefused}

-- why the task isn't opened
abbrev pub IsTaskAnswer : Bool → Image → ℕ → ℕ → Outcome → Type 0
IsTaskAnswer told image nodes rotation Done = ⊥
IsTaskAnswer told image nodes rotation (Disk out) = ⊥
IsTaskAnswer told image nodes rotation TaskDisk = ⊤
IsTaskAnswer told image nodes rotation (Read node) = ⊥
IsTaskAnswer told image nodes rotation Memory = ⊤
IsTaskAnswer told image nodes rotation (TooLarge number bytes) = ⊥
IsTaskAnswer told image nodes rotation (Node node place fault) = ⊥
IsTaskAnswer told image nodes rotation (Open out fault) = ⊥
IsTaskAnswer told image nodes rotation (Task fault) = IsTrue told → IsTaskRefused image nodes rotation fault
IsTaskAnswer told image nodes rotation (Behind node kept given) = ⊥
IsTaskAnswer told image nodes rotation (Differs out kept given) = ⊥
IsTaskAnswer told image nodes rotation (Key out kept given) = ⊥

-- why the disks aren't opened: the first refusal in the order of the outputs, then the task
abbrev pub IsDisksAnswer : Bool → List Image → Image → ℕ → ℕ → Outcome → Type 0
IsDisksAnswer told images task nodes rotation Done = ⊥
IsDisksAnswer told images task nodes rotation (Disk out) = IsTrue told → OpenBefore images out
IsDisksAnswer told images task nodes rotation TaskDisk = IsTrue told → AllByRecursion CanOpen images
IsDisksAnswer told images task nodes rotation (Read node) = ⊥
IsDisksAnswer told images task nodes rotation Memory = ⊤
IsDisksAnswer told images task nodes rotation (TooLarge number bytes) = ⊥
IsDisksAnswer told images task nodes rotation (Node node place fault) = ⊥
IsDisksAnswer told images task nodes rotation (Open out fault) = IsTrue told → IsOutRefused images out fault
IsDisksAnswer told images task nodes rotation (Task fault) = IsTrue told → AllByRecursion CanOpen images × IsTaskRefused task nodes rotation fault
IsDisksAnswer told images task nodes rotation (Behind node kept given) = ⊥
IsDisksAnswer told images task nodes rotation (Differs out kept given) = ⊥
IsDisksAnswer told images task nodes rotation (Key out kept given) = ⊥

-- what an opening leaves of the task, also where it isn't opened: what is seen, and at every moment what it could leave
-- before. Its count of faults doesn't fall
pub record IsTaskKept {D : Type 0} (told : Bool) (seen : D → Image) (may_leave : D → Image → Type 0) (moment : D → ℕ) (left_since : D → ℕ → Image → Type 0) (faults : D → ℕ) (old new : D) : Type 0 where
  pub same : IsTrue told → seen new ≡ seen old
  pub any_moment : IsTrue told → LeavesOnly moment left_since old new (may_leave old)
  pub later : faults old ≤ faults new
