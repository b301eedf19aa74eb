-- What the opening of outputs answers where it refuses.
use Rattle.std.specs.Prelude.{◌≡◌, ℕ, Bool, IsTrue, List, ⊤}
use Rattle.cdc_outside.specs.Disk.{Image}
use Rattle.cdc_opening.specs.declared.outcome.Outcome.{Outcome}
use Rattle.cdc_opening.specs.declared.outcome.Outcome.TheVariants.{Done, Disk, TaskDisk, Read, Memory, TooLarge, Node, Open, Task, Behind, Differs, Key}
use Rattle.cdc_opening.specs.OpenOuts.{IsRefusal, OpenBefore, IsOutRefused}

-- why one output isn't opened
abbrev pub IsOutAnswer : Bool → Image → ℕ → Outcome → Type 0
IsOutAnswer told image number Done = ⊥
IsOutAnswer told image number (Disk out) = out ≡ number
IsOutAnswer told image number TaskDisk = ⊥
IsOutAnswer told image number (Read node) = ⊥
IsOutAnswer told image number Memory = ⊥
IsOutAnswer told image number (TooLarge of bytes) = ⊥
IsOutAnswer told image number (Node node place fault) = ⊥
IsOutAnswer told image number (Open out fault) = (out ≡ number) × (IsTrue told → IsRefusal image fault)
IsOutAnswer told image number (Task fault) = ⊥
IsOutAnswer told image number (Behind node kept given) = ⊥
IsOutAnswer told image number (Differs out kept given) = ⊥
IsOutAnswer told image number (Key out kept given) = ⊥

-- why outputs aren't opened, the first that isn't
abbrev pub IsOutsAnswer : Bool → List Image → Outcome → Type 0
IsOutsAnswer told images Done = ⊥
IsOutsAnswer told images (Disk out) = IsTrue told → OpenBefore images out
IsOutsAnswer told images TaskDisk = ⊥
IsOutsAnswer told images (Read node) = ⊥
IsOutsAnswer told images Memory = ⊤
IsOutsAnswer told images (TooLarge of bytes) = ⊥
IsOutsAnswer told images (Node node place fault) = ⊥
IsOutsAnswer told images (Open out fault) = IsTrue told → IsOutRefused images out fault
IsOutsAnswer told images (Task fault) = ⊥
IsOutsAnswer told images (Behind node kept given) = ⊥
IsOutsAnswer told images (Differs out kept given) = ⊥
IsOutsAnswer told images (Key out kept given) = ⊥
