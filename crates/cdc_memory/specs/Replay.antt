-- What a disk in memory holds, by replay of the steps that it has recorded.
use Rattle.std.specs.Prelude.{ℕ, ◌≤◌, List, [], ◌∷◌, ◌++◌, length, take}
use Rattle.cdc_outside.specs.declared.disk_file.DiskFile.{DiskFile}
use Rattle.cdc_outside.specs.Disk.{Image, Change, Wrote, CutTo, MayLeave, with_file, overwritten}
use Rattle.cdc_memory.specs.declared.disk_record.DiskStep.{DiskStep}
use Rattle.cdc_memory.specs.declared.disk_record.DiskStep.TheVariants.{Write, Cut, Sync}

-- what is seen, what the last sync has, and the changes since
pub record Holding : Type 0 where
  pub seen : Image
  pub last_sync : Image
  pub pending : DiskFile → List Change

-- files that nothing was changed of since the last sync
abbrev pub at_rest : Image → Holding
at_rest image = record { seen = image; last_sync = image; pending = λ file. [] }

-- after one step more
abbrev pub after_step : Holding → DiskStep → Holding
after_step holding (Write file at piece) = record {
  seen = with_file file (overwritten at piece.bytes.items (holding.seen file)) holding.seen;
  last_sync = holding.last_sync;
  pending = with_file file (holding.pending file ++ Wrote at (length piece.bytes.items) ∷ []) holding.pending;
}
after_step holding (Cut file to) = record {
  seen = with_file file (take to (holding.seen file)) holding.seen;
  last_sync = holding.last_sync;
  pending = with_file file (holding.pending file ++ CutTo to ∷ []) holding.pending;
}
after_step holding Sync = at_rest holding.seen

-- after these steps, of which the oldest comes first
abbrev pub after_steps : Holding → List DiskStep → Holding
after_steps holding [] = holding
after_steps holding (step ∷ steps) = after_steps (after_step holding step) steps

-- what a crash may leave then: all that the model allows
abbrev pub LeavesNow : Holding → Image → Type 0
LeavesNow holding image = (file : DiskFile) → MayLeave (holding.last_sync file) (holding.pending file) (image file)

-- and what one might have left at some moment since the one after so many steps
abbrev pub LeavesSince : Holding → List DiskStep → ℕ → Image → Type 0
LeavesSince start steps moment image = (number : ℕ) × (moment ≤ number) × (number ≤ length steps) × LeavesNow (after_steps start (take number steps)) image

-- what a disk holds that began at rest with these files
abbrev pub holding_of : Image → List DiskStep → Holding
holding_of start steps = after_steps (at_rest start) steps
