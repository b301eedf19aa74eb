-- What an item that was taken carries, over plain stages.
use Rattle.std.proofs.Common.{◌≡◌, ◌≢◌, ℕ, ◌+◌, ◌≤◌, ◌⊎◌, inl, inr, ⊎_elim, true, false, List, [], ◌∷◌, refl, sym, ◌∙◌, ap, subst, arith, Ok, Err}
use Rattle.cdc_outside.specs.Disk.{Image}
use Rattle.cdc_model.specs.Records.{Transaction, OutputUnit}
use Rattle.cdc_records.specs.declared.front.Front.{Front}
use Rattle.cdc_dumper.specs.State.{DumperState}
use Rattle.cdc_dumper.specs.Moves.{front_with}
use Rattle.cdc_recovery.specs.Outputs.{OutputPlan, IsUnitAt}
use Rattle.cdc_item.specs.declared.dump_item.DumpItem.{DumpItem}
use Rattle.cdc_item.specs.declared.dump_item.DumpItem.TheVariants.{Unit as OneUnit, End}
use Rattle.cdc_dump_stage.specs.declared.dump_end.DumpEnd.{DumpEnd}
use Rattle.cdc_dump_stage.specs.declared.dump_end.DumpEnd.TheVariants.{Open, Whole, Disk, Differs, Key as OtherKey}
use Rattle.cdc_dump_stage.specs.declared.stage.DumpStage.{DumpStage}
use Rattle.cdc_dump_stage.specs.Disks.{DiskWords, LosesNothing}
use Rattle.cdc_dump_stage.specs.Taking.{takes_units, is_well, IsRefusedFor, IsNextUnit}
use Rattle.cdc_dump_stage.specs.Standing.{AreFrontsOf, IsWorking, IsReadyFor, IsKept, units_in, Carries}
use Rattle.cdc_dump_stage.proofs.Refusing.{never_refused}

module _ {D : Type 0} (w : DiskWords D) where
  -- a stage that is open and ready works
  works : (plan : OutputPlan) (txns : List Transaction) (sent : ℕ) (stage : DumpStage) (disk : D) → takes_units stage.end ≡ true → IsReadyFor w plan txns sent stage disk → IsWorking w plan txns sent stage disk
  works plan txns sent stage disk going (inl working) = working
  works plan txns sent stage disk going (inr failed) = absurd (let closed : takes_units stage.end ≡ false = ap takes_units failed in cc)

  -- one that is ready goes on so, where nothing was done
  pub ready_still : (plan : OutputPlan) (txns : List Transaction) (sent later : ℕ) (old new : DumpStage) (old_disk disk : D) → new.end ≡ old.end → new.dumper ≡ old.dumper → w.seen disk ≡ w.seen old_disk → later ≤ sent ⊎ (later ≤ old.dumper.appended.count)
      → IsReadyFor w plan txns sent old old_disk → IsReadyFor w plan txns later new disk
  ready_still plan txns sent later old new old_disk disk same_end same_dumper same_seen counted (inr failed) = inr (same_end ∙ failed)
  ready_still plan txns sent later old new old_disk disk same_end same_dumper same_seen counted (inl working) =
      let reached : sent ≤ old.dumper.appended.count = working.counted in
      let count : new.dumper.appended.count ≡ old.dumper.appended.count = ap (λ (d : DumperState). d.appended.count) same_dumper in
      inl (record {
        well = ap is_well same_end ∙ working.well;
        fronts = subst (λ (d : DumperState). AreFrontsOf plan txns d (w.seen disk)) (sym same_dumper) (subst (λ (i : Image). AreFrontsOf plan txns old.dumper i) (sym same_seen) working.fronts);
        counted = ⊎_elim (λ few. omega (arith, few, reached, count)) (λ few. omega (arith, few, count)) counted;
      })

  -- no unit of the output's transactions is refused
  pub carries_refused : (old new : DumpStage) (disk : D) (unit : OutputUnit) (dump_end : DumpEnd) → takes_units old.end ≡ true → IsRefusedFor old.dumper.appended unit dump_end → Carries w old disk (OneUnit unit ∷ []) new disk
  carries_refused old new disk unit dump_end going refused plan txns sent ready (at, most, none) =
      let working = works plan txns sent old disk going ready in
      absurd (never_refused plan txns sent old.dumper.appended (w.seen disk) unit dump_end working.fronts.appended working.counted at most refused)

  -- a known unit is passed over
  pub carries_known : (old : DumpStage) (disk : D) (unit : OutputUnit) → ((plan : OutputPlan) (txns : List Transaction) → LosesNothing w plan txns disk disk) → unit.number ≤ old.dumper.appended.count → Carries w old disk (OneUnit unit ∷ []) old disk
  carries_known old disk unit nothing known plan txns sent ready (at, most, none) =
      let number : unit.number ≡ sent + 1 = at.number in
      record { keeps = nothing plan txns; ready = ready_still plan txns sent (sent + units_in (OneUnit unit ∷ [])) old old disk disk refl refl refl (inr (omega (arith, number, known))) ready }

  -- nothing was taken, and nothing done
  pub carries_none : (old : DumpStage) (disk : D) → ((plan : OutputPlan) (txns : List Transaction) → LosesNothing w plan txns disk disk) → Carries w old disk [] old disk
  carries_none old disk nothing plan txns sent ready units =
      record { keeps = nothing plan txns; ready = ready_still plan txns sent (sent + 0) old old disk disk refl refl refl (inl (omega arith)) ready }

  -- a stage that isn't open takes an item and does nothing
  pub carries_closed : (old new : DumpStage) (disk : D) (item : DumpItem) → ((plan : OutputPlan) (txns : List Transaction) → LosesNothing w plan txns disk disk) → takes_units old.end ≡ false → old.end ≢ Whole → new.end ≡ old.end → new.dumper ≡ old.dumper → Carries w old disk (item ∷ []) new disk
  carries_closed old new disk item nothing closed broken same_end same_dumper plan txns sent ready units = record { keeps = nothing plan txns; ready = inr (same_end ∙ failed old.end refl ready) }
    where
      failed : (e : DumpEnd) → old.end ≡ e → IsReadyFor w plan txns sent old disk → old.end ≡ Disk
      failed e is (inr gone) = gone
      failed Open is (inl working) = absurd (let going : takes_units old.end ≡ true = ap takes_units is in cc)
      failed Whole is (inl working) = absurd (broken is)
      failed Disk is (inl working) = is
      failed (Differs kept given) is (inl working) = absurd (let bad : is_well old.end ≡ false = ap is_well is in let good = working.well in cc)
      failed (OtherKey kept given) is (inl working) = absurd (let bad : is_well old.end ≡ false = ap is_well is in let good = working.well in cc)

  -- the next unit was written
  pub carries_written : {A E : Type 0} (old new : DumpStage) (old_disk disk : D) (unit : OutputUnit) (value : A) → takes_units old.end ≡ true → new.end ≡ old.end → IsNextUnit old.dumper.appended unit → new.dumper.appended ≡ front_with old.dumper.appended unit
      → ((plan : OutputPlan) (txns : List Transaction) → AreFrontsOf plan txns old.dumper (w.seen old_disk) → IsUnitAt plan txns old.dumper.appended.count unit → IsKept {A = A} {E = E} w plan txns old_disk disk new.dumper (Ok value))
      → Carries w old old_disk (OneUnit unit ∷ []) new disk
  carries_written old new old_disk disk unit value going same_end next appended kept plan txns sent ready (at, most, none) =
      let working = works plan txns sent old old_disk going ready in
      let number : unit.number ≡ sent + 1 = at.number in
      let follows : unit.number ≡ old.dumper.appended.count + 1 = next.number in
      let here : sent ≡ old.dumper.appended.count = omega (arith, number, follows) in
      let done = kept plan txns working.fronts (subst (λ n. IsUnitAt plan txns n unit) here at) in
      let count : new.dumper.appended.count ≡ unit.number = ap (λ (f : Front). f.count) appended in
      record { keeps = done.keeps; ready = inl (record { well = ap is_well same_end ∙ working.well; fronts = done.fronts; counted = omega (arith, number, count) }) }

  -- the disk failed while it was
  pub carries_failed : {A E : Type 0} (old new : DumpStage) (old_disk disk : D) (unit : OutputUnit) (error : E) → takes_units old.end ≡ true → new.end ≡ Disk → IsNextUnit old.dumper.appended unit
      → ((plan : OutputPlan) (txns : List Transaction) → AreFrontsOf plan txns old.dumper (w.seen old_disk) → IsUnitAt plan txns old.dumper.appended.count unit → IsKept {A = A} {E = E} w plan txns old_disk disk new.dumper (Err error))
      → Carries w old old_disk (OneUnit unit ∷ []) new disk
  carries_failed old new old_disk disk unit error going is_disk next kept plan txns sent ready (at, most, none) =
      let working = works plan txns sent old old_disk going ready in
      let number : unit.number ≡ sent + 1 = at.number in
      let follows : unit.number ≡ old.dumper.appended.count + 1 = next.number in
      let here : sent ≡ old.dumper.appended.count = omega (arith, number, follows) in
      let done = kept plan txns working.fronts (subst (λ n. IsUnitAt plan txns n unit) here at) in
      record { keeps = done.keeps; ready = inr is_disk }

  -- all was published at the window's End
  pub carries_whole : {A E : Type 0} (old new : DumpStage) (old_disk disk : D) (value : A) → takes_units old.end ≡ true → new.end ≡ Whole → new.dumper.appended ≡ old.dumper.appended
      → ((plan : OutputPlan) (txns : List Transaction) → AreFrontsOf plan txns old.dumper (w.seen old_disk) → IsKept {A = A} {E = E} w plan txns old_disk disk new.dumper (Ok value))
      → Carries w old old_disk (End ∷ []) new disk
  carries_whole old new old_disk disk value going is_whole appended kept plan txns sent ready units =
      let working = works plan txns sent old old_disk going ready in
      let done = kept plan txns working.fronts in
      let count : new.dumper.appended.count ≡ old.dumper.appended.count = ap (λ (f : Front). f.count) appended in
      let reached : sent ≤ old.dumper.appended.count = working.counted in
      record { keeps = done.keeps; ready = inl (record { well = ap is_well is_whole; fronts = done.fronts; counted = omega (arith, count, reached) }) }

  -- the disk failed at it
  pub carries_unpublished : {A E : Type 0} (old new : DumpStage) (old_disk disk : D) (error : E) → takes_units old.end ≡ true → new.end ≡ Disk
      → ((plan : OutputPlan) (txns : List Transaction) → AreFrontsOf plan txns old.dumper (w.seen old_disk) → IsKept {A = A} {E = E} w plan txns old_disk disk new.dumper (Err error))
      → Carries w old old_disk (End ∷ []) new disk
  carries_unpublished old new old_disk disk error going is_disk kept plan txns sent ready units =
      let working = works plan txns sent old old_disk going ready in
      record { keeps = (kept plan txns working.fronts).keeps; ready = inr is_disk }
