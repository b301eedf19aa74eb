-- What a disk means, as one record, and what a run over it leaves.
use Rattle.std.specs.Prelude.{ℕ, Bool, List}
use Rattle.cdc_outside.specs.declared.disk_file.DiskFile.{DiskFile}
use Rattle.cdc_outside.specs.Disk.{Image, Change}
use Rattle.cdc_model.specs.Records.{Transaction}
use Rattle.cdc_recovery.specs.Outputs.{OutputPlan}
use Rattle.cdc_recovery.specs.Growing.{Grows}

-- the meanings of a disk
pub record DiskWords (D : Type 0) : Type 1 where
  pub tells : Bool
  pub seen : D → Image
  pub synced : D → Image
  pub pending : D → DiskFile → List Change
  pub may_leave : D → Image → Type 0
  pub moment : D → ℕ
  pub left_since : D → ℕ → Image → Type 0
  pub faults : D → ℕ

-- these, as one
abbrev pub disk_words : {D : Type 0} → Bool → (D → Image) → (D → Image) → (D → DiskFile → List Change) → (D → Image → Type 0) → (D → ℕ) → (D → ℕ → Image → Type 0) → (D → ℕ) → DiskWords D
disk_words tells seen synced pending may_leave moment left_since faults =
    record { tells = tells; seen = seen; synced = synced; pending = pending; may_leave = may_leave; moment = moment; left_since = left_since; faults = faults }

-- nothing that the output keeps of these transactions is lost at any moment of a run
abbrev pub LosesNothing : {D : Type 0} → DiskWords D → OutputPlan → List Transaction → D → D → Type 0
LosesNothing w plan txns old new = Grows w.may_leave w.moment w.left_since plan txns old new
