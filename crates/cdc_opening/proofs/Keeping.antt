-- What an opening leaves of disks.
use Rattle.std.proofs.Common.{ℕ, ◌≤◌, inl, ⊎_elim, Bool, IsTrue, List, refl, arith}
use Rattle.cdc_outside.specs.Disk.{Image, LeavesOnly}
use Rattle.cdc_outside.proofs.Moments.{started, weaker}
use Rattle.cdc_model.specs.Records.{Transaction}
use Rattle.cdc_dumper.specs.Opening.{IsOldOrTrimmed, IsTrimmed, IsFound}
use Rattle.cdc_records.specs.declared.front.Front.{Front}
use Rattle.cdc_recovery.specs.Outputs.{OutputPlan, KeepsFrom}
use Rattle.cdc_recovery.specs.Growing.{Each}
use Rattle.cdc_recovery.specs.MoveLaws.{EachOpeningKeeps}
use Rattle.cdc_recovery.proofs.Runs.{nothing_grows}
use Rattle.cdc_opening.specs.OpenOuts.{IsOutKept}
use Rattle.cdc_opening.specs.TaskAnswers.{IsTaskKept}

module _ {D : Type 0} (told : Bool) (seen : D → Image) (may_leave : D → Image → Type 0) (moment : D → ℕ) (left_since : D → ℕ → Image → Type 0) (faults : D → ℕ) where
  -- what the cuts leave of what is seen keeps what all images kept
  old_or_trimmed_keeps : EachOpeningKeeps → IsTrue told → ((disk : D) → IsTrue told → may_leave disk (seen disk)) → (plan : OutputPlan) (txns : List Transaction) (least : ℕ) (old : D)
      → Each (may_leave old) (KeepsFrom plan txns least) → (image : Image) → IsOldOrTrimmed (may_leave old) (seen old) image → KeepsFrom plan txns least image
  old_or_trimmed_keeps law is seen_may_stay plan txns least old each image leaves =
      ⊎_elim (λ was. each image was)
      (λ (cut : (f : Front) × IsFound (seen old) f × IsTrimmed f (seen old) image). law plan txns least cut.0 (seen old) image (each (seen old) (seen_may_stay old is)) cut.1 cut.2)
      leaves

  -- an output that was opened, or not, grows
  pub out_kept : EachOpeningKeeps → ((disk : D) → IsTrue told → may_leave disk (seen disk)) → (old new : D) → (IsTrue told → LeavesOnly moment left_since old new (IsOldOrTrimmed (may_leave old) (seen old)))
      → faults old ≤ faults new → IsOutKept told seen may_leave moment left_since faults old new
  out_kept law seen_may_stay old new any_moment later = record {
    any_moment = any_moment;
    grows = λ is plan txns least each. weaker moment left_since old new (IsOldOrTrimmed (may_leave old) (seen old)) (KeepsFrom plan txns least) (any_moment is) (old_or_trimmed_keeps law is seen_may_stay plan txns least old each);
    later = later;
  }

  -- where nothing is done
  pub out_kept_same : (IsTrue told → (disk : D) (image : Image) → left_since disk (moment disk) image → may_leave disk image) → (disk : D) → IsOutKept told seen may_leave moment left_since faults disk disk
  out_kept_same only_now disk = record {
    any_moment = λ is. started moment left_since disk (IsOldOrTrimmed (may_leave disk) (seen disk)) (λ image left. inl (only_now is disk image left));
    grows = λ is plan txns. nothing_grows may_leave moment left_since (only_now is) plan txns disk;
    later = omega arith;
  }

  pub task_kept_same : (IsTrue told → (disk : D) (image : Image) → left_since disk (moment disk) image → may_leave disk image) → (disk : D) → IsTaskKept told seen may_leave moment left_since faults disk disk
  task_kept_same only_now disk = record {
    same = λ is. refl;
    any_moment = λ is. started moment left_since disk (may_leave disk) (λ image left. only_now is disk image left);
    later = omega arith;
  }
