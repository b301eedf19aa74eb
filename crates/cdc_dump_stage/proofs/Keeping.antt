-- What an append and a commit keep of an output.
use Rattle.std.proofs.Common.{◌≡◌, ℕ, ◌≤◌, ⊎_elim, List, refl, sym, ap, subst, arith, Result, OnOk}
use Rattle.cdc_outside.specs.Disk.{Image, LeavesOnly}
use Rattle.cdc_outside.proofs.Moments.{weaker}
use Rattle.cdc_model.specs.Records.{Transaction, OutputUnit}
use Rattle.cdc_records.specs.declared.front.Front.{Front}
use Rattle.cdc_records.specs.Front.{HasFront}
use Rattle.cdc_dumper.specs.State.{DumperState, IsShaped}
use Rattle.cdc_dumper.specs.Moves.{front_with, StillHas, IsAppended, HasCommitted, IsBeforeOrCommitted}
use Rattle.cdc_recovery.specs.Outputs.{OutputPlan, IsFrontOf, KeepsOut, KeepsFrom, IsUnitAt}
use Rattle.cdc_recovery.specs.Growing.{Each}
use Rattle.cdc_recovery.proofs.Changes.{each_still_keeps, each_append_keeps, each_commit_keeps}
use Rattle.cdc_recovery.proofs.OneCount.{image_has_one_front}
use Rattle.cdc_recovery.proofs.Runs.{nothing_grows, growing_goes_on}
use Rattle.cdc_dump_stage.specs.Disks.{DiskWords, LosesNothing}
use Rattle.cdc_dump_stage.specs.Standing.{AreFrontsOf, IsKept}
use Rattle.cdc_dump_stage.proofs.Results.{on_ok_two}

pub front_of_kept : (plan : OutputPlan) (txns : List Transaction) (f : Front) (count : ℕ) (image : Image) → HasFront image f → KeepsOut plan txns count image → IsFrontOf plan txns f image
front_of_kept plan txns f count image has kept = subst (λ (g : Front). IsFrontOf plan txns g image) (image_has_one_front image kept.front f kept.is_front has) kept.is_kept

module _ {D : Type 0} (w : DiskWords D)
    (seen_may_stay : (disk : D) → w.may_leave disk (w.seen disk))
    (counts_now : (disk : D) (t : ℕ) (image : Image) → t ≤ w.moment disk → w.may_leave disk image → w.left_since disk t image)
    (only_now : (disk : D) (image : Image) → w.left_since disk (w.moment disk) image → w.may_leave disk image) where
  -- what every image has at least, what is seen has
  pub least_reached : (plan : OutputPlan) (txns : List Transaction) (least : ℕ) (disk : D) (f : Front) → HasFront (w.seen disk) f → Each (w.may_leave disk) (KeepsFrom plan txns least) → least ≤ f.count
  least_reached plan txns least disk f has each =
      let kept = each (w.seen disk) (seen_may_stay disk) in
      let same : kept.keeps.front.count ≡ f.count = ap (λ (g : Front). g.count) (image_has_one_front (w.seen disk) kept.keeps.front f kept.keeps.is_front has) in
      let reached : least ≤ kept.count = kept.reached in
      let counted : kept.keeps.front.count ≡ kept.count = kept.keeps.counted in
      omega (arith, same, reached, counted)

  -- what is seen behind a run was left at one of its moments
  pub seen_left : (old new : D) (P : Image → Type 0) → LeavesOnly w.moment w.left_since old new P → P (w.seen new)
  seen_left old new P run = run.each (w.seen new) (counts_now new (w.moment old) (w.seen new) run.later (seen_may_stay new))

  still_from : (plan : OutputPlan) (txns : List Transaction) (least : ℕ) (f : Front) (seen image : Image) → least ≤ f.count → IsFrontOf plan txns f seen → StillHas f seen image → KeepsFrom plan txns least image
  still_from plan txns least f seen image reached is still =
      record { count = f.count; reached = reached; keeps = record { front = f; is_front = still.front; counted = refl; is_kept = each_still_keeps plan txns f seen image is still } }

  pub append_keeps : (plan : OutputPlan) (txns : List Transaction) (old new : D) (f : Front) → HasFront (w.seen old) f → IsFrontOf plan txns f (w.seen old)
      → LeavesOnly w.moment w.left_since old new (StillHas f (w.seen old)) → LosesNothing w plan txns old new
  append_keeps plan txns old new f has is run = λ least each.
      weaker w.moment w.left_since old new (StillHas f (w.seen old)) (KeepsFrom plan txns least) run
      (λ image still. still_from plan txns least f (w.seen old) image (least_reached plan txns least old f has each) is still)

  pub append_kept : {A E : Type 0} (plan : OutputPlan) (txns : List Transaction) (old new : D) (d e : DumperState) (unit : OutputUnit) (result : Result A E) → IsShaped d → HasFront (w.seen old) d.published
      → LeavesOnly w.moment w.left_since old new (StillHas d.published (w.seen old)) → e.published ≡ d.published → OnOk result (e.appended ≡ front_with d.appended unit)
      → OnOk result (IsAppended d.appended unit (w.seen old) (w.seen new)) → AreFrontsOf plan txns d (w.seen old) → IsUnitAt plan txns d.appended.count unit → IsKept w plan txns old new e result
  append_kept plan txns old new d e unit result shape has run same appended done fronts at = record {
    keeps = append_keeps plan txns old new d.published has fronts.published run;
    fronts = on_ok_two (e.appended ≡ front_with d.appended unit) (IsAppended d.appended unit (w.seen old) (w.seen new)) (AreFrontsOf plan txns e (w.seen new)) result
        (λ is written. record {
          published = subst (λ (f : Front). IsFrontOf plan txns f (w.seen new)) (sym same) (each_still_keeps plan txns d.published (w.seen old) (w.seen new) fronts.published (seen_left old new (StillHas d.published (w.seen old)) run));
          appended = subst (λ (f : Front). IsFrontOf plan txns f (w.seen new)) (sym is) (each_append_keeps plan txns d.appended unit (w.seen old) (w.seen new) shape.appended at fronts.appended written);
        })
        appended done;
  }

  pub commit_keeps : (plan : OutputPlan) (txns : List Transaction) (old new : D) (d : DumperState) → IsShaped d → HasFront (w.seen old) d.published → AreFrontsOf plan txns d (w.seen old)
      → LeavesOnly w.moment w.left_since old new (IsBeforeOrCommitted d.published d.appended (w.seen old)) → LosesNothing w plan txns old new
  commit_keeps plan txns old new d shape has fronts run = λ least each.
      let reached = least_reached plan txns least old d.published has each in
      weaker w.moment w.left_since old new (IsBeforeOrCommitted d.published d.appended (w.seen old)) (KeepsFrom plan txns least) run
      (λ image. ⊎_elim (λ still. still_from plan txns least d.published (w.seen old) image reached fronts.published still)
      (λ done. record { count = d.appended.count; reached = omega (arith, reached, shape.ahead.count); keeps = each_commit_keeps plan txns d.appended (w.seen old) image fronts.appended done }))

  committed_fronts : (plan : OutputPlan) (txns : List Transaction) (old new : Image) (d e : DumperState) → AreFrontsOf plan txns d old → HasCommitted d.appended old new → e.published ≡ d.appended → e.appended ≡ d.appended → AreFrontsOf plan txns e new
  committed_fronts plan txns old new d e fronts done published appended =
      let is : IsFrontOf plan txns d.appended new = front_of_kept plan txns d.appended d.appended.count new done.front (each_commit_keeps plan txns d.appended old new fronts.appended done) in
      record { published = subst (λ (f : Front). IsFrontOf plan txns f new) (sym published) is; appended = subst (λ (f : Front). IsFrontOf plan txns f new) (sym appended) is }

  pub commit_kept : {A E : Type 0} (plan : OutputPlan) (txns : List Transaction) (old new : D) (d e : DumperState) (result : Result A E) → IsShaped d → HasFront (w.seen old) d.published
      → LeavesOnly w.moment w.left_since old new (IsBeforeOrCommitted d.published d.appended (w.seen old)) → OnOk result (e.published ≡ d.appended) → e.appended ≡ d.appended
      → OnOk result (HasCommitted d.appended (w.seen old) (w.seen new)) → AreFrontsOf plan txns d (w.seen old) → IsKept w plan txns old new e result
  commit_kept plan txns old new d e result shape has run published appended done fronts = record {
    keeps = commit_keeps plan txns old new d shape has fronts run;
    fronts = on_ok_two (e.published ≡ d.appended) (HasCommitted d.appended (w.seen old) (w.seen new)) (AreFrontsOf plan txns e (w.seen new)) result
        (λ is has_done. committed_fronts plan txns (w.seen old) (w.seen new) d e fronts has_done is appended) published done;
  }

  pub nothing_keeps : (plan : OutputPlan) (txns : List Transaction) (disk : D) → LosesNothing w plan txns disk disk
  nothing_keeps plan txns disk = nothing_grows w.may_leave w.moment w.left_since only_now plan txns disk

  pub keeps_then : (plan : OutputPlan) (txns : List Transaction) (old mid new : D) → LosesNothing w plan txns old mid → LosesNothing w plan txns mid new → LosesNothing w plan txns old new
  keeps_then plan txns old mid new first second = growing_goes_on w.may_leave w.moment w.left_since counts_now plan txns old mid new first second
