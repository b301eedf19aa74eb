-- The laws of a job: where nothing is done it has gone nowhere, and one run after another is one run.
use Rattle.std.specs.Prelude.{◌≡◌, ℕ, ◌+◌, ◌≤◌, ◌⊎◌, List, [], ◌∷◌, ◌++◌, IsTrue, refl}
use Rattle.std.proofs.Common.{inl, inr, sym, ◌∙◌, ap, subst, arith, add-zero}
use Rattle.cdc_outside.specs.Count.{Rose}
use Rattle.cdc_outside.specs.Disk.{Image}
use Rattle.cdc_model.specs.Records.{Transaction}
use Rattle.cdc_records.specs.declared.front.Front.{Front}
use Rattle.cdc_recovery.specs.Outputs.{OutputPlan}
use Rattle.cdc_recovery.proofs.Runs.{nothing_grows, growing_goes_on}
use Rattle.cdc_item.specs.declared.dump_item.DumpItem.{DumpItem}
use Rattle.cdc_item.specs.declared.dump_item.DumpItem.TheVariants.{Unit as OneUnit, End}
use Rattle.cdc_dump_stage.specs.declared.dump_end.DumpEnd.{DumpEnd}
use Rattle.cdc_dump_stage.specs.declared.dump_end.DumpEnd.TheVariants.{Open, Whole, Disk, Differs, Key as OtherKey}
use Rattle.cdc_dump_stage.specs.Disks.{DiskWords}
use Rattle.cdc_dump_stage.specs.Taking.{end_again, Leads, Went}
use Rattle.cdc_dump_stage.specs.Standing.{IsReadyFor, AreUnits, units_in, FailsBy}
use Rattle.cdc_dump_stage.specs.Job.{StagedDisk, HasGone}

-- two lists have the units of both
pub units_more : (xs ys : List DumpItem) → units_in (xs ++ ys) ≡ units_in xs + units_in ys
units_more [] ys = omega arith
units_more (OneUnit unit ∷ xs) ys = let more = units_more xs ys in omega (arith, more)
units_more (End ∷ xs) ys = units_more xs ys

-- those of the second are of the transactions behind those of the first
pub units_split : (plan : OutputPlan) (txns : List Transaction) (sent : ℕ) (xs ys : List DumpItem) → AreUnits plan txns sent (xs ++ ys) → AreUnits plan txns sent xs × AreUnits plan txns (sent + units_in xs) ys
units_split plan txns sent [] ys units = (tt, subst (λ n. AreUnits plan txns n ys) (sym (add-zero sent)) units)
units_split plan txns sent (OneUnit unit ∷ xs) ys (at, most, units) =
    let rest = units_split plan txns (sent + 1) xs ys units in
    ((at, most, rest.0), subst (λ n. AreUnits plan txns n ys) (let e : sent + 1 + units_in xs ≡ sent + (units_in xs + 1) = omega arith in e) rest.1)
units_split plan txns sent (End ∷ xs) ys units = units_split plan txns sent xs ys units

-- what is opened twice is open
pub reopened_twice : (e : DumpEnd) → end_again (end_again e) ≡ end_again e
reopened_twice Open = refl
reopened_twice Whole = refl
reopened_twice Disk = refl
reopened_twice (Differs kept given) = refl
reopened_twice (OtherKey kept given) = refl

reopened_same : (e later : DumpEnd) → (later ≡ e) ⊎ (later ≡ end_again e) → end_again later ≡ end_again e
reopened_same e later (inl same) = ap end_again same
reopened_same e later (inr again) = ap end_again again ∙ reopened_twice e

still_or_again : (e mid later : DumpEnd) → (mid ≡ e) ⊎ (mid ≡ end_again e) → (later ≡ mid) ⊎ (later ≡ end_again mid) → (later ≡ e) ⊎ (later ≡ end_again e)
still_or_again e mid later (inl first) (inl second) = inl (second ∙ first)
still_or_again e mid later (inr first) (inl second) = inr (second ∙ first)
still_or_again e mid later first (inr second) = inr (second ∙ reopened_same e mid first)

-- one way after another is one way
pub went_on : (e : DumpEnd) (g : Front) (xs : List DumpItem) (mid_end : DumpEnd) (mid : Front) (ys : List DumpItem) (later_end : DumpEnd) (later : Front) → Went e g xs mid_end mid → Went mid_end mid ys later_end later → Went e g (xs ++ ys) later_end later
went_on e g [] mid_end mid [] later_end later first second = (still_or_again e mid_end later_end first.0 second.0, second.1 ∙ first.1)
went_on e g [] mid_end mid (item ∷ ys) later_end later first (next_end, next, leads, rest) =
    (next_end, next, subst (λ (f : Front). Leads (end_again e) f item next_end next) first.1 (subst (λ (d : DumpEnd). Leads d mid item next_end next) (reopened_same e mid_end first.0) leads), rest)
went_on e g (item ∷ xs) mid_end mid ys later_end later (next_end, next, leads, rest) second = (next_end, next, leads, went_on next_end next xs mid_end mid ys later_end later rest second)

module _ {D : Type 0} (w : DiskWords D) where
  -- where nothing is done, nothing changes
  pub gone_nowhere : (IsTrue w.tells → (disk : D) (image : Image) → w.left_since disk (w.moment disk) image → w.may_leave disk image) → (job : StagedDisk D) → HasGone w job [] job
  gone_nowhere only_now job = record {
    carries = λ told plan txns sent ready units. record {
      keeps = nothing_grows w.may_leave w.moment w.left_since (only_now told) plan txns job.disk;
      ready = subst (λ n. IsReadyFor w plan txns n job.stage job.disk) (sym (add-zero sent)) ready;
    };
    later = omega arith;
    fails = λ is. inl is;
    went = (inl refl, refl);
  }

  fails_on : (a b c : StagedDisk D) → w.faults a.disk ≤ w.faults b.disk → w.faults b.disk ≤ w.faults c.disk → FailsBy w a.stage a.disk b.stage b.disk → FailsBy w b.stage b.disk c.stage c.disk → FailsBy w a.stage a.disk c.stage c.disk
  fails_on a b c first second fails_first fails_second is = later (fails_second is)
    where
      earlier : (a.stage.end ≡ Disk) ⊎ Rose (w.faults a.disk) (w.faults b.disk) → (a.stage.end ≡ Disk) ⊎ Rose (w.faults a.disk) (w.faults c.disk)
      earlier (inl was) = inl was
      earlier (inr rose) = inr (omega (arith, rose, second))

      later : (b.stage.end ≡ Disk) ⊎ Rose (w.faults b.disk) (w.faults c.disk) → (a.stage.end ≡ Disk) ⊎ Rose (w.faults a.disk) (w.faults c.disk)
      later (inl was) = earlier (fails_first was)
      later (inr rose) = inr (omega (arith, rose, first))

  -- one run after another is one run
  pub gone_on : (IsTrue w.tells → (disk : D) (t : ℕ) (image : Image) → t ≤ w.moment disk → w.may_leave disk image → w.left_since disk t image)
      → (a b c : StagedDisk D) (xs ys : List DumpItem) → HasGone w a xs b → HasGone w b ys c → HasGone w a (xs ++ ys) c
  gone_on counts_now a b c xs ys p q = record {
    carries = λ told plan txns sent ready units.
        let split = units_split plan txns sent xs ys units in
        let first = p.carries told plan txns sent ready split.0 in
        let second = q.carries told plan txns (sent + units_in xs) first.ready split.1 in
        let more = units_more xs ys in
        record {
          keeps = growing_goes_on w.may_leave w.moment w.left_since (counts_now told) plan txns a.disk b.disk c.disk first.keeps second.keeps;
          ready = subst (λ n. IsReadyFor w plan txns n c.stage c.disk) (let e : sent + units_in xs + units_in ys ≡ sent + units_in (xs ++ ys) = omega (arith, more) in e) second.ready;
        };
    later = let first = p.later in let second = q.later in omega (arith, first, second);
    fails = fails_on a b c p.later q.later p.fails q.fails;
    went = went_on a.stage.end a.stage.dumper.appended xs b.stage.end b.stage.dumper.appended ys c.stage.end c.stage.dumper.appended p.went q.went;
  }
