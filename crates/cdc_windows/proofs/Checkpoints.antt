-- The task over windows: at every moment each image is recoverable, and no checkpoint runs ahead of an output.
use Rattle.std.proofs.Common.{◌≡◌, ℕ, ◌≤◌, inl, inr, List, Option, Some, refl, sym, ◌∙◌, subst, arith}
use Rattle.cdc_outside.specs.Disk.{Image, LeavesOnly}
use Rattle.cdc_outside.proofs.Moments.{joined}
use Rattle.cdc_cell.specs.Record.{kept_record, HasOldRecord}
use Rattle.cdc_model.specs.declared.node_log.NodeLog.{NodeLog}
use Rattle.cdc_records.specs.declared.checkpoint.Checkpoint.{Checkpoint}
use Rattle.cdc_records.specs.Checkpoint.{IsKeptPoint}
use Rattle.cdc_recovery.specs.Outputs.{OutputPlan}
use Rattle.cdc_recovery.specs.Checkpoints.{IsRecoverablePoint, KeepsPoint, KeepsTask, IsCovered, kept_on, stored}
use Rattle.cdc_task.specs.Task.{HasNewPoint, IsOldOrNewPoint}
use Rattle.cdc_windows.specs.Keeping.{IsStoredBy}

-- a greater count covers as well
covered_more : (starts : Image → Type 0) (most more : ℕ) (point : Option Checkpoint) (image : Image) → most ≤ more → IsCovered starts most point image → IsCovered starts more point image
covered_more starts most more point image le (kept_on start is same) = kept_on start is same
covered_more starts most more point image le (stored p is few) = stored p is (omega (arith, le, few))

pub keeps_more : (plan : OutputPlan) (logs : List NodeLog) (starts : Image → Type 0) (most more : ℕ) (image : Image) → most ≤ more → KeepsTask plan logs starts most image → KeepsTask plan logs starts more image
keeps_more plan logs starts most more image le k = record { point = k.point; keeps = k.keeps; covered = covered_more starts most more k.point image le k.covered }

-- an image of the start
pub keeps_start : (plan : OutputPlan) (logs : List NodeLog) (starts : Image → Type 0) (most : ℕ) (image : Image) → starts image → (point : Option Checkpoint) → KeepsPoint plan logs point image → KeepsTask plan logs starts most image
keeps_start plan logs starts most image is point keeps = record { point = point; keeps = keeps; covered = kept_on image is refl }

-- the record of another image
covered_same : (starts : Image → Type 0) (most : ℕ) (point : Option Checkpoint) (image other : Image) → kept_record other ≡ kept_record image → IsCovered starts most point image → IsCovered starts most point other
covered_same starts most point image other same (kept_on start is kept) = kept_on start is (same ∙ kept)
covered_same starts most point image other same (stored p is few) = stored p is few

pub keeps_old : (plan : OutputPlan) (logs : List NodeLog) (starts : Image → Type 0) (most : ℕ) (seen image : Image) → HasOldRecord seen image → KeepsTask plan logs starts most seen → KeepsTask plan logs starts most image
keeps_old plan logs starts most seen image old k = record {
  point = k.point;
  keeps = record {
    has = record { cell = old.sound; kept = subst (λ r. IsKeptPoint r k.point) (sym old.kept) k.keeps.has.kept };
    recoverable = k.keeps.recoverable;
  };
  covered = covered_same starts most k.point seen image old.kept k.covered;
}

-- the checkpoint that was stored
pub keeps_new : (plan : OutputPlan) (logs : List NodeLog) (starts : Image → Type 0) (most : ℕ) (seen image : Image) (p : Checkpoint) → HasNewPoint p seen image → IsRecoverablePoint plan logs p → p.count ≤ most → KeepsTask plan logs starts most image
keeps_new plan logs starts most seen image p new sound few = record {
  point = Some p;
  keeps = record { has = new.point; recoverable = sound };
  covered = stored p refl few;
}

module _ {D : Type 0} (seen : D → Image) (may_leave : D → Image → Type 0) (moment : D → ℕ) (left_since : D → ℕ → Image → Type 0) where
  -- a window's keeping, where a checkpoint that is kept is sound and has at most so many transactions
  pub window_keeps : (counts_now : (disk : D) (t : ℕ) (image : Image) → t ≤ moment disk → may_leave disk image → left_since disk t image)
      → (seen_may_stay : (disk : D) → may_leave disk (seen disk))
      → (plan : OutputPlan) (logs : List NodeLog) (most more : ℕ) (allowed : Type 0) (Made : Checkpoint → Type 0) (first mid last : D) → most ≤ more
      → LeavesOnly moment left_since first mid (KeepsTask plan logs (may_leave first) most)
      → LeavesOnly moment left_since mid last (IsStoredBy (may_leave mid) (seen mid) allowed Made)
      → (allowed → (p : Checkpoint) → Made p → IsRecoverablePoint plan logs p × (p.count ≤ more))
      → LeavesOnly moment left_since first last (KeepsTask plan logs (may_leave first) more)
  window_keeps counts_now seen_may_stay plan logs most more allowed Made first mid last le so_far run sound =
      joined moment left_since first mid last (KeepsTask plan logs (may_leave first) most) (IsStoredBy (may_leave mid) (seen mid) allowed Made) (KeepsTask plan logs (may_leave first) more)
      so_far run (λ image k. keeps_more plan logs (may_leave first) most more image le k) left_behind
    where
      here : (image : Image) → may_leave mid image → KeepsTask plan logs (may_leave first) more image
      here image leaves = keeps_more plan logs (may_leave first) most more image le (so_far.each image (counts_now mid (moment first) image so_far.later leaves))

      new_or_old : (allowed : Type 0) → (allowed → (p : Checkpoint) → Made p → IsRecoverablePoint plan logs p × (p.count ≤ more)) → allowed → (image : Image) (p : Checkpoint) → Made p → IsOldOrNewPoint p (seen mid) image → KeepsTask plan logs (may_leave first) more image
      new_or_old ok sound is image p made (inl old) = keeps_old plan logs (may_leave first) more (seen mid) image old (here (seen mid) (seen_may_stay mid))
      new_or_old ok sound is image p made (inr new) = let s = sound is p made in keeps_new plan logs (may_leave first) more (seen mid) image p new s.0 s.1

      left_behind : (image : Image) → IsStoredBy (may_leave mid) (seen mid) allowed Made image → KeepsTask plan logs (may_leave first) more image
      left_behind image (inl leaves) = here image leaves
      left_behind image (inr (is, (p, made, which))) = new_or_old allowed sound is image p made which
