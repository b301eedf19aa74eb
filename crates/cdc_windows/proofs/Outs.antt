-- What the outputs' jobs do over windows: nothing is lost, and they are ready for what follows.
use Rattle.std.proofs.Common.{◌≡◌, ℕ, ◌+◌, ◌≤◌, List, [], ◌∷◌, ◌++◌, IsTrue, subst, arith}
use Rattle.std.specs.List.{AllZip, AllByRecursion}
use Rattle.cdc_outside.specs.Disk.{Image}
use Rattle.cdc_model.specs.Records.{Transaction}
use Rattle.cdc_recovery.specs.Outputs.{OutputPlan, KeepsFrom}
use Rattle.cdc_recovery.specs.Growing.{Each}
use Rattle.cdc_recovery.proofs.Runs.{each_behind, growing_goes_on}
use Rattle.cdc_turns.specs.Joined.{joined, AllTurned}
use Rattle.cdc_item.specs.declared.dump_item.DumpItem.{DumpItem}
use Rattle.cdc_dump_stage.specs.Disks.{DiskWords, LosesNothing}
use Rattle.cdc_dump_stage.specs.Standing.{IsReadyFor, AreUnits, units_in}
use Rattle.cdc_dump_stage.specs.Job.{StagedDisk, HasGone}
use Rattle.cdc_dump_stage.specs.JobLaws.{units_more, units_split}
use Rattle.cdc_windows.specs.Windows.{disks_of, OutsGoOn, HasUnits, IsWholeOut}

module _ {D : Type 0} (w : DiskWords D) (plan : OutputPlan) (txns : List Transaction) where
  -- an output over all runs so far and one run more
  record TwoRuns (first mid last : StagedDisk D) (count : ℕ) : Type 0 where
    pub all : LosesNothing w plan txns first.disk last.disk
    pub more : LosesNothing w plan txns mid.disk last.disk
    pub ready : IsReadyFor w plan txns count last.stage last.disk

  two_runs : IsTrue w.tells → ((disk : D) (t : ℕ) (image : Image) → t ≤ w.moment disk → w.may_leave disk image → w.left_since disk t image)
      → (from count : ℕ) (first mid last : StagedDisk D) (xs ys : List DumpItem) → HasGone w first xs mid → HasGone w mid ys last
      → IsReadyFor w plan txns from first.stage first.disk → AreUnits plan txns from (xs ++ ys) → from + units_in (xs ++ ys) ≡ count → TwoRuns first mid last count
  two_runs told counts_now from count first mid last xs ys one two ready units came =
      let split = units_split plan txns from xs ys units in
      let before = one.carries told plan txns from ready split.0 in
      let after = two.carries told plan txns (from + units_in xs) before.ready split.1 in
      let more = units_more xs ys in
      record {
        all = growing_goes_on w.may_leave w.moment w.left_since counts_now plan txns first.disk mid.disk last.disk before.keeps after.keeps;
        more = after.keeps;
        ready = subst (λ n. IsReadyFor w plan txns n last.stage last.disk) (let e : from + units_in xs + units_in ys ≡ count = omega (arith, more, came) in e) after.ready;
      }

  -- so it is of all outputs
  pub outs_go_on : IsTrue w.tells → ((disk : D) (t : ℕ) (image : Image) → t ≤ w.moment disk → w.may_leave disk image → w.left_since disk t image)
      → (from count : ℕ) (firsts mids lasts : List (StagedDisk D)) (ps qs : List (List DumpItem)) → AllTurned (HasGone w) firsts ps mids → AllTurned (HasGone w) mids qs lasts
      → AllByRecursion (λ (job : StagedDisk D). IsReadyFor w plan txns from job.stage job.disk) firsts → AllByRecursion (HasUnits plan txns from count) (joined ps qs)
      → AllZip (λ (old : StagedDisk D) (new : StagedDisk D). LosesNothing w plan txns old.disk new.disk) mids lasts × OutsGoOn w plan txns count firsts lasts
  outs_go_on told counts_now from count [] [] [] [] [] s t ready units = (tt, tt)
  outs_go_on told counts_now from count [] [] (z ∷ zs) [] [] s t ready units = absurd t
  outs_go_on told counts_now from count [] [] zs [] (q ∷ qs) s t ready units = absurd t
  outs_go_on told counts_now from count [] (y ∷ ys) zs [] qs s t ready units = absurd s
  outs_go_on told counts_now from count [] ys zs (p ∷ ps) qs s t ready units = absurd s
  outs_go_on told counts_now from count (x ∷ xs) ys zs [] qs s t ready units = absurd s
  outs_go_on told counts_now from count (x ∷ xs) [] zs (p ∷ ps) qs s t ready units = absurd s
  outs_go_on told counts_now from count (x ∷ xs) (y ∷ ys) zs (p ∷ ps) [] s t ready units = absurd t
  outs_go_on told counts_now from count (x ∷ xs) (y ∷ ys) [] (p ∷ ps) (q ∷ qs) s t ready units = absurd t
  outs_go_on told counts_now from count (x ∷ xs) (y ∷ ys) (z ∷ zs) (p ∷ ps) (q ∷ qs) s t ready units =
      let one = two_runs told counts_now from count x y z p q s.0 t.0 ready.0 units.0.units units.0.many in
      let rest = outs_go_on told counts_now from count xs ys zs ps qs s.1 t.1 ready.1 units.1 in
      ((one.more, rest.0), ((one.all, one.ready), rest.1))

  -- what all images of all outputs keep, they keep over a run
  pub covered_on : ((disk : D) (t : ℕ) (image : Image) → t ≤ w.moment disk → w.may_leave disk image → w.left_since disk t image)
      → (most : ℕ) (olds news : List (StagedDisk D)) → AllZip (λ (old : StagedDisk D) (new : StagedDisk D). LosesNothing w plan txns old.disk new.disk) olds news
      → AllByRecursion (λ (disk : D). Each (w.may_leave disk) (KeepsFrom plan txns most)) (disks_of olds)
      → AllByRecursion (λ (disk : D). Each (w.may_leave disk) (KeepsFrom plan txns most)) (disks_of news)
  covered_on counts_now most [] [] all covered = tt
  covered_on counts_now most [] (n ∷ news) all covered = absurd all
  covered_on counts_now most (o ∷ olds) [] all covered = absurd all
  covered_on counts_now most (o ∷ olds) (n ∷ news) all covered =
      (each_behind w.may_leave w.moment w.left_since counts_now o.disk n.disk (KeepsFrom plan txns most) (all.0 most covered.0), covered_on counts_now most olds news all.1 covered.1)

  -- whole outputs keep all that was given
  pub whole_covers : IsTrue w.tells → (count : ℕ) (firsts lasts : List (StagedDisk D)) → OutsGoOn w plan txns count firsts lasts → AllByRecursion (IsWholeOut w) lasts
      → AllByRecursion (λ (disk : D). Each (w.may_leave disk) (KeepsFrom plan txns count)) (disks_of lasts)
  whole_covers told count [] [] all whole = tt
  whole_covers told count [] (z ∷ lasts) all whole = absurd all
  whole_covers told count (x ∷ firsts) [] all whole = absurd all
  whole_covers told count (x ∷ firsts) (z ∷ lasts) all whole = (whole.0.keeps told plan txns count all.0.1, whole_covers told count firsts lasts all.1 whole.1)
