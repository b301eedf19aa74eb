-- A pass, and calls behind it that only look at its outs.
use Rattle.std.proofs.Common.{ℕ, zero, suc, ◌-◌, ◌≤◌, List, [], ◌∷◌, length, map, arith}
use Rattle.std.specs.List.{AllByRecursion, AllZip}
use Rattle.cdc_cell.specs.Reading.{IsLeftAlone}
use Rattle.cdc_outside.specs.Disk.{Image}
use Rattle.cdc_outside.proofs.Moments.{joined}
use Rattle.cdc_model.specs.declared.node_log.NodeLog.{NodeLog}
use Rattle.cdc_model.specs.Records.{Transaction}
use Rattle.cdc_recovery.specs.Outputs.{OutputPlan, planned_transactions, KeepsFrom}
use Rattle.cdc_recovery.specs.Growing.{Each}
use Rattle.cdc_dump_stage.specs.Disks.{DiskWords, LosesNothing}
use Rattle.cdc_node_stage.specs.Job.{SourceWords}
use Rattle.cdc_opening.specs.declared.outcome.Outcome.{Outcome}
use Rattle.cdc_opening.specs.Lists.{DeviceRoseAt}
use Rattle.cdc_list.specs.Listing.{AllLater}
use Rattle.cdc_list.proofs.Zips.{later_at}
use Rattle.cdc_headline.specs.Headline.{Headline}
use Rattle.cdc_print.specs.Outcome.{NoCountFell}

-- an out that was only looked at
abbrev pub IsLookedAt : {D : Type 0} → DiskWords D → D → D → Type 0
IsLookedAt w old new = IsLeftAlone w.seen w.synced w.pending w.may_leave w.moment w.left_since old new

-- a count that rose before has risen
pub rose_till : {D : Type 0} (faults : D → ℕ) (olds mids news : List D) (number : ℕ) → DeviceRoseAt (map faults olds) (map faults mids) number → AllLater faults mids news
    → DeviceRoseAt (map faults olds) (map faults news) number
rose_till faults olds mids news number rose later =
    let less = later_at faults mids news (number - 1) later in
    record { first = rose.first; last = rose.last; rose = omega (arith, rose.rose, less) }

-- where no count fell one by one, none of the list did
pub none_fell : {S : Type 0} (faults : S → ℕ) (olds news : List S) → AllZip (λ (old new : S). faults old ≤ faults new) olds news → NoCountFell (map faults olds) (map faults news)
none_fell faults [] [] all place = let h : 0 ≤ 0 = omega (arith) in h
none_fell faults [] (new ∷ news) all place = absurd all
none_fell faults (old ∷ olds) [] all place = absurd all
none_fell faults (old ∷ olds) (new ∷ news) all zero = all.0
none_fell faults (old ∷ olds) (new ∷ news) all (suc place) = none_fell faults olds news all.1 place

module _ {D : Type 0} (w : DiskWords D) where
  -- what all images of the outs keep, they keep on
  pub keeps_on : (P : Image → Type 0) (outs nexts : List D) → AllByRecursion (λ (disk : D). Each (w.may_leave disk) P) outs → AllZip (IsLookedAt w) outs nexts
      → AllByRecursion (λ (disk : D). Each (w.may_leave disk) P) nexts
  keeps_on P [] [] kept alone = tt
  keeps_on P [] (next ∷ nexts) kept alone = absurd alone
  keeps_on P (out ∷ outs) [] kept alone = absurd alone
  keeps_on P (out ∷ outs) (next ∷ nexts) kept alone = (λ image left. kept.0 image (alone.0.crash image left), keeps_on P outs nexts kept.1 alone.1)

  -- an out that lost nothing loses nothing
  pub loses_on : ((disk : D) (t : ℕ) (image : Image) → t ≤ w.moment disk → w.may_leave disk image → w.left_since disk t image) → (plan : OutputPlan) (txns : List Transaction) (old mid new : D)
      → LosesNothing w plan txns old mid → IsLookedAt w mid new → LosesNothing w plan txns old new
  loses_on counts plan txns old mid new grows alone = λ least kept.
      let run = grows least kept in
      joined w.moment w.left_since old mid new (KeepsFrom plan txns least) (w.may_leave mid) (KeepsFrom plan txns least) run alone.any_moment (λ image is. is)
      (λ image left. run.each image (counts mid (w.moment old) image run.later left))

  -- so it is of all outs
  pub lose_on : ((disk : D) (t : ℕ) (image : Image) → t ≤ w.moment disk → w.may_leave disk image → w.left_since disk t image) → (plan : OutputPlan) (txns : List Transaction) (olds mids news : List D)
      → AllZip (λ (old : D) (new : D). LosesNothing w plan txns old new) olds mids → AllZip (IsLookedAt w) mids news → AllZip (λ (old : D) (new : D). LosesNothing w plan txns old new) olds news
  lose_on counts plan txns [] [] [] grow alone = tt
  lose_on counts plan txns [] [] (new ∷ news) grow alone = absurd alone
  lose_on counts plan txns [] (mid ∷ mids) news grow alone = absurd grow
  lose_on counts plan txns (old ∷ olds) [] news grow alone = absurd grow
  lose_on counts plan txns (old ∷ olds) (mid ∷ mids) [] grow alone = absurd alone
  lose_on counts plan txns (old ∷ olds) (mid ∷ mids) (new ∷ news) grow alone =
      (loses_on counts plan txns old mid new grow.0 alone.0, lose_on counts plan txns olds mids news grow.1 alone.1)

-- the headline of a pass holds on where its outs are only looked at
pub headline_on : {S D : Type 0} (s : SourceWords S) (w : DiskWords D)
    → ((disk : D) (t : ℕ) (image : Image) → t ≤ w.moment disk → w.may_leave disk image → w.left_since disk t image)
    → (plan : OutputPlan) (logs : List NodeLog) (nodes nodes_now : List S) (outs behind outs_now : List D) (task task_now : D) (outcome : Outcome)
    → AllZip (IsLookedAt w) behind outs_now → Headline s w plan logs nodes nodes_now outs behind task task_now outcome
    → Headline s w plan logs nodes nodes_now outs outs_now task task_now outcome
headline_on s w counts plan logs nodes nodes_now outs behind outs_now task task_now outcome alone h = record {
  outs_grow = lose_on w counts plan (planned_transactions plan logs) outs behind outs_now h.outs_grow alone;
  task_goes_on = record {
    most = h.task_goes_on.most;
    below = h.task_goes_on.below;
    kept = record {
      every_moment = h.task_goes_on.kept.every_moment;
      covered = keeps_on w (KeepsFrom plan (planned_transactions plan logs) h.task_goes_on.most) behind outs_now h.task_goes_on.kept.covered alone;
    };
  };
  published = λ all. keeps_on w (KeepsFrom plan (planned_transactions plan logs) (length (planned_transactions plan logs))) behind outs_now (h.published all) alone;
  last = h.last;
  ends = h.ends;
  resumed = h.resumed;
}
