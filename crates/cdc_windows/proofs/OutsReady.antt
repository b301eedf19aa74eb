-- Outputs that were opened are ready.
use Rattle.std.proofs.Common.{◌≡◌, ℕ, ◌≤◌, inl, true, IsTrue, List, Option, Some, refl, sym, ◌∙◌, ap, subst, arith}
use Rattle.cdc_base.specs.declared.key.Key.{Key}
use Rattle.cdc_model.specs.Records.{Transaction}
use Rattle.cdc_model.specs.Transaction.{key_at}
use Rattle.cdc_records.specs.declared.front.Front.{Front}
use Rattle.cdc_dumper.specs.State.{DumperState}
use Rattle.cdc_recovery.specs.Outputs.{OutputPlan, IsFrontOf, KeepsFrom}
use Rattle.cdc_recovery.specs.Growing.{Each}
use Rattle.cdc_recovery.proofs.Changes.{each_trim_keeps}
use Rattle.cdc_recovery.proofs.OneCount.{image_has_one_front}
use Rattle.cdc_dump_stage.specs.declared.dump_end.DumpEnd.{DumpEnd}
use Rattle.cdc_dump_stage.specs.declared.dump_end.DumpEnd.TheVariants.{Open, Whole, Disk, Differs, Key as OtherKey}
use Rattle.cdc_dump_stage.specs.Disks.{DiskWords}
use Rattle.cdc_dump_stage.specs.Standing.{IsReadyFor, AreFrontsOf}
use Rattle.cdc_dump_stage.specs.Taking.{StartsAs, is_well}
use Rattle.cdc_dump_stage.specs.Job.{StagedDisk}
use Rattle.cdc_opening.specs.OpenOuts.{IsOutOpened}
use Rattle.cdc_windows.specs.Jobs.{IsJobOf, StartsSoundly}

-- a start with the right key refuses nothing
starts_well : (txns : List Transaction) (f : Front) (start : Option (ℕ × Key)) (e : DumpEnd) → ((key : Key) → f.last ≡ Some key → key ≡ key_at txns f.count) → StartsSoundly txns start → StartsAs f start e → is_well e ≡ true
starts_well txns f start Open last sound starts = refl
starts_well txns f start Whole last sound starts = absurd starts
starts_well txns f start Disk last sound starts = absurd starts
starts_well txns f start (Differs kept given) last sound starts = absurd starts
starts_well txns f start (OtherKey kept given) last sound (count, is, other) =
    absurd (other.other (last kept other.last ∙ (ap (λ n. key_at txns n) (sym other.here) ∙ sym (sound count given is))))

module _ {D : Type 0} (w : DiskWords D) where
  pub opened_ready : IsTrue w.tells → ((disk : D) → w.may_leave disk (w.seen disk)) → (plan : OutputPlan) (txns : List Transaction) (start : Option (ℕ × Key)) (from : ℕ) (old : D) (dumper : DumperState) (job : StagedDisk D)
      → IsOutOpened w.tells w.seen w.synced w.pending old dumper job.disk → IsJobOf start dumper job.disk job → Each (w.may_leave old) (KeepsFrom plan txns 0) → StartsSoundly txns start → from ≤ dumper.published.count
      → IsReadyFor w plan txns from job.stage job.disk
  opened_ready told seen_may_stay plan txns start from old dumper job opened made each sound few =
      let f : Front = dumper.published in
      let before = (each (w.seen old) (seen_may_stay old)).keeps in
      let found = opened.found told in
      let same : before.front ≡ f = image_has_one_front (w.seen old) before.front f before.is_front found.has in
      let front_old : IsFrontOf plan txns f (w.seen old) = subst (λ (g : Front). IsFrontOf plan txns g (w.seen old)) same before.is_kept in
      let stands = opened.stands told front_old.behind in
      let after = each_trim_keeps plan txns f (w.seen old) (w.seen job.disk) found.has front_old (opened.trimmed told).trimmed in
      let again : after.front ≡ f = image_has_one_front (w.seen job.disk) after.front f after.is_front stands.has in
      let front_new : IsFrontOf plan txns f (w.seen job.disk) = subst (λ (g : Front). IsFrontOf plan txns g (w.seen job.disk)) again after.is_kept in
      let fronts : AreFrontsOf plan txns dumper (w.seen job.disk) = record { published = front_new; appended = subst (λ (g : Front). IsFrontOf plan txns g (w.seen job.disk)) (sym opened.settled) front_new } in
      inl
      record {
        well = starts_well txns f start job.stage.end front_old.last sound made.starts;
        fronts = subst (λ (d : DumperState). AreFrontsOf plan txns d (w.seen job.disk)) (sym made.of_dumper) fronts;
        counted = let count : job.stage.dumper.appended.count ≡ f.count = ap (λ (d : DumperState). d.appended.count) made.of_dumper ∙ ap (λ (g : Front). g.count) opened.settled in omega (arith, few, count);
      }
