-- Growing is an order of runs.
use Rattle.std.proofs.Common.{ℕ, ◌≤◌, List, [], ◌∷◌}
use Rattle.cdc_outside.specs.Disk.{Image, LeavesOnly}
use Rattle.cdc_outside.proofs.Moments.{started, joined}
use Rattle.cdc_model.specs.Records.{Transaction}
use Rattle.cdc_recovery.specs.Outputs.{OutputPlan, planned_transactions, KeepsFrom}
use Rattle.cdc_recovery.specs.Growing.{Each, Grows, OutputPass, FollowsPass, AreInARow, EachGrows, EachKeeps}
use Rattle.cdc_recovery.proofs.Longer.{logs_keep_outputs}

module _ {D : Type 0} (may_leave : D → Image → Type 0) (moment : D → ℕ) (left_since : D → ℕ → Image → Type 0) where
  pub nothing_grows : ((disk : D) (image : Image) → left_since disk (moment disk) image → may_leave disk image)
      → (plan : OutputPlan) (txns : List Transaction) (disk : D) → Grows may_leave moment left_since plan txns disk disk
  nothing_grows only_now plan txns disk = λ least each. started moment left_since disk (KeepsFrom plan txns least) (λ image left. each image (only_now disk image left))

  -- what a run left only such contents at each moment has such contents behind it
  pub each_behind : ((disk : D) (t : ℕ) (image : Image) → t ≤ moment disk → may_leave disk image → left_since disk t image)
      → (old new : D) (P : Image → Type 0) → LeavesOnly moment left_since old new P → Each (may_leave new) P
  each_behind counts_now old new P run = λ image left. run.each image (counts_now new (moment old) image run.later left)

  pub growing_goes_on : ((disk : D) (t : ℕ) (image : Image) → t ≤ moment disk → may_leave disk image → left_since disk t image)
      → (plan : OutputPlan) (txns : List Transaction) (old mid new : D) → Grows may_leave moment left_since plan txns old mid
      → Grows may_leave moment left_since plan txns mid new → Grows may_leave moment left_since plan txns old new
  growing_goes_on counts_now plan txns old mid new first second = λ least each.
      let run = first least each in
      let P : Image → Type 0 = KeepsFrom plan txns least in
      joined moment left_since old mid new P P P run (second least (each_behind counts_now old mid P run)) (λ image is. is) (λ image is. is)

  -- what one pass keeps, the next one keeps behind a stop
  next_begins : (plan : OutputPlan) (least : ℕ) (pass next : OutputPass D) → FollowsPass may_leave moment left_since pass next
      → LeavesOnly moment left_since pass.begun pass.left (KeepsFrom plan (planned_transactions plan pass.logs) least)
      → Each (may_leave next.begun) (KeepsFrom plan (planned_transactions plan next.logs) least)
  next_begins plan least pass next follows run = λ image left.
      let kept = run.each image (follows.stopped image left) in
      record { count = kept.count; reached = kept.reached; keeps = logs_keep_outputs plan pass.logs next.logs kept.count image follows.goes_on kept.keeps }

  pub passes_and_stops_keep : (plan : OutputPlan) (least : ℕ) (pass : OutputPass D) (passes : List (OutputPass D))
      → Each (may_leave pass.begun) (KeepsFrom plan (planned_transactions plan pass.logs) least) → AreInARow may_leave moment left_since pass passes
      → EachGrows may_leave moment left_since plan (pass ∷ passes) → EachKeeps moment left_since plan least (pass ∷ passes)
  passes_and_stops_keep plan least pass [] each row (grows, others) = (grows least each, tt)
  passes_and_stops_keep plan least pass (next ∷ passes) each (follows, row) (grows, others) =
      let run = grows least each in
      (run, passes_and_stops_keep plan least next passes (next_begins plan least pass next follows run) row others)
