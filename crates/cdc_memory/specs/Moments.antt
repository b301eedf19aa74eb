-- Laws of a disk in memory: its moments, and that what is seen may stay.
use Rattle.std.proofs.Common.{◌≡◌, inl, inr, ℕ, ◌≤◌}
use Rattle.std.proofs.Common.{List, [], ◌∷◌, ◌++◌, length, take, sym, subst, arith, take_all}
use Rattle.cdc_outside.specs.declared.disk_file.DiskFile.{DiskFile}
use Rattle.std.proofs.lemmas.Bool.{cases_Bool}
use Rattle.cdc_outside.specs.Disk.{Image, Change, MayLeave, Wrote, CutTo, same_file, with_file, overwritten}
use Rattle.cdc_outside.proofs.Changes.{stays_written, stays_cut, stays_synced}
use Rattle.cdc_outside.proofs.Pending.{same_file_is, with_file_same, with_file_other}
use Rattle.cdc_memory.specs.Replay.{Holding, at_rest, after_step, after_steps, LeavesNow, LeavesSince}
use Rattle.cdc_memory.specs.declared.disk_record.DiskStep.{DiskStep}
use Rattle.cdc_memory.specs.declared.disk_record.DiskStep.TheVariants.{Write, Cut, Sync}

-- this moment is one of those since an earlier one
pub counts_at_end : (start : Holding) (steps : List DiskStep) (t : ℕ) (image : Image) → t ≤ length steps → LeavesNow (after_steps start steps) image → LeavesSince start steps t image
counts_at_end start steps t image le now =
    (length steps, le, omega arith, subst (λ (l : List DiskStep). LeavesNow (after_steps start l) image) (sym (take_all (length steps) steps (omega arith))) now)

-- since this moment there is no other
pub only_at_end : (start : Holding) (steps : List DiskStep) (image : Image) → LeavesSince start steps (length steps) image → LeavesNow (after_steps start steps) image
only_at_end start steps image left = subst (λ (l : List DiskStep). LeavesNow (after_steps start l) image) (take_all left.0 steps left.1) left.3

-- one file's content and changes were changed
stays_with : (file : DiskFile) (bytes : List ℕ) (changes : List Change) (last_sync seen : Image) (pending : DiskFile → List Change)
    → ((other : DiskFile) → MayLeave (last_sync other) (pending other) (seen other)) → MayLeave (last_sync file) changes bytes
    → (other : DiskFile) → MayLeave (last_sync other) (with_file file changes pending other) (with_file file bytes seen other)
stays_with file bytes changes last_sync seen pending may own other = elim (cases_Bool (same_file file other)) [
  | inl same ↦
      let e : file ≡ other = same_file_is file other same in
      let at_file : MayLeave (last_sync file) (with_file file changes pending file) (with_file file bytes seen file) =
      subst (λ cs. MayLeave (last_sync file) cs (with_file file bytes seen file)) (sym (with_file_same file changes pending))
      (subst (λ bs. MayLeave (last_sync file) changes bs) (sym (with_file_same file bytes seen)) own) in
      subst (λ o. MayLeave (last_sync o) (with_file file changes pending o) (with_file file bytes seen o)) e at_file
  | inr isnt ↦
      subst (λ cs. MayLeave (last_sync other) cs (with_file file bytes seen other)) (sym (with_file_other file changes pending other isnt))
      (subst (λ bs. MayLeave (last_sync other) (pending other) bs) (sym (with_file_other file bytes seen other isnt)) (may other))
]

-- what is seen stays an image
stays_stepped : (holding : Holding) (step : DiskStep) → LeavesNow holding holding.seen → LeavesNow (after_step holding step) (after_step holding step).seen
stays_stepped holding (Write file at piece) may =
    stays_with file (overwritten at piece.bytes.items (holding.seen file)) (holding.pending file ++ Wrote at (length piece.bytes.items) ∷ []) holding.last_sync holding.seen holding.pending may
    (stays_written (holding.last_sync file) (holding.pending file) (holding.seen file) at piece.bytes.items (may file))
stays_stepped holding (Cut file to) may =
    stays_with file (take to (holding.seen file)) (holding.pending file ++ CutTo to ∷ []) holding.last_sync holding.seen holding.pending may
    (stays_cut (holding.last_sync file) (holding.pending file) (holding.seen file) to (may file))
stays_stepped holding Sync may = λ file. stays_synced (holding.seen file)

-- what a read gives is among what a crash may leave, after any steps
pub stays_replayed : (holding : Holding) (steps : List DiskStep) → LeavesNow holding holding.seen → LeavesNow (after_steps holding steps) (after_steps holding steps).seen
stays_replayed holding [] may = may
stays_replayed holding (step ∷ steps) may = stays_replayed (after_step holding step) steps (stays_stepped holding step may)

-- and so it is from a disk on which nothing is pending
pub stays_from_rest : (image : Image) (steps : List DiskStep) → LeavesNow (after_steps (at_rest image) steps) (after_steps (at_rest image) steps).seen
stays_from_rest image steps = stays_replayed (at_rest image) steps (λ file. stays_synced (image file))
