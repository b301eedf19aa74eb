-- A job's turn, as the driver sees it.
use Rattle.std.proofs.Common.{◌≡◌, ℕ, ◌+◌, ◌*◌, ◌≤◌, Bool, true, false, List, [], ◌∷◌, ◌++◌, length, count_by, refl, sym, ◌∙◌, ap, subst, arith, inl, inr, IsTrue, add-zero}
use Rattle.cdc_lane.specs.declared.plain.PlainLane.{PlainLane}
use Rattle.cdc_lane.specs.Held.{held, CameOut}
use Rattle.cdc_turns.specs.declared.turn.Turn.{Turn}
use Rattle.cdc_turns.specs.declared.turn.Turn.TheVariants.{Moved, Blocked, Done}
use Rattle.cdc_turns.specs.Ends.{EndsAs}
use Rattle.cdc_turns.proofs.Counting.{stays_open, closes_now, same_ends}
use Rattle.cdc_turns.specs.Turns.{TakesItems, DumpSays, is_move, one_if}
use Rattle.cdc_dumper.specs.State.{DumperState}
use Rattle.cdc_model.specs.Records.{Transaction}
use Rattle.cdc_recovery.specs.Outputs.{OutputPlan}
use Rattle.cdc_item.specs.declared.dump_item.DumpItem.{DumpItem}
use Rattle.cdc_item.specs.declared.dump_item.DumpItem.TheVariants.{Unit as OneUnit, End}
use Rattle.cdc_item.specs.Item.{closes_dump_window}
use Rattle.cdc_dump_stage.specs.declared.dump_end.DumpEnd.{DumpEnd}
use Rattle.cdc_dump_stage.specs.declared.dump_end.DumpEnd.TheVariants.{Open, Whole, Disk, Differs, Key as OtherKey}
use Rattle.cdc_dump_stage.specs.declared.stage.DumpStage.{DumpStage}
use Rattle.cdc_dump_stage.specs.Disks.{DiskWords, LosesNothing}
use Rattle.cdc_dump_stage.specs.Taking.{is_well, end_again, Leads, Went}
use Rattle.cdc_dump_stage.specs.Standing.{IsStanding, IsReadyFor, AreFrontsOf, Carries, FailsBy, IsTurn}
use Rattle.cdc_dump_stage.specs.Job.{StagedDisk, staged, HasGone, dump_account}

-- the End closes the window, and a unit doesn't
one_more_item : (window : ℕ) (before : List DumpItem) (item : DumpItem) (ended : Bool) → ended ≡ closes_dump_window item → count_by closes_dump_window before + 1 ≡ window → EndsAs closes_dump_window window ended (before ++ item ∷ [])
one_more_item window before (OneUnit unit) ended is open_still =
    subst (λ (b : Bool). EndsAs closes_dump_window window b (before ++ OneUnit unit ∷ [])) (sym is) (stays_open closes_dump_window window before (OneUnit unit) refl open_still)
one_more_item window before End ended is open_still =
    subst (λ (b : Bool). EndsAs closes_dump_window window b (before ++ End ∷ [])) (sym is) (closes_now closes_dump_window window before End refl open_still)

-- nothing taken leaves it as it is
none_more : (old new : DumpStage) (items : List DumpItem) (window : ℕ) (before : List DumpItem) → items ≡ [] → new ≡ old → EndsAs closes_dump_window window old.ended before → EndsAs closes_dump_window window new.ended (before ++ items)
none_more old new items window before none same ends =
    subst (λ l. EndsAs closes_dump_window window new.ended (before ++ l)) (sym none)
    (same_ends closes_dump_window window new.ended before (subst (λ (s : DumpStage). EndsAs closes_dump_window window s.ended before) (sym same) ends))

-- what works goes on, and what failed stays so
well_again : (e : DumpEnd) → is_well e ≡ true → is_well (end_again e) ≡ true
well_again Open well = refl
well_again Whole well = refl
well_again Disk well = well
well_again (Differs kept given) well = well
well_again (OtherKey kept given) well = well

failed_before : (e : DumpEnd) → end_again e ≡ Disk → e ≡ Disk
failed_before Open is = absurd cc
failed_before Whole is = absurd cc
failed_before Disk is = refl
failed_before (Differs kept given) is = is
failed_before (OtherKey kept given) is = is

-- a window that hasn't ended isn't whole
reopened_going : (stage : DumpStage) → stage.ended ≡ false → (stage.end ≡ Whole → stage.ended ≡ true) → end_again stage.end ≡ stage.end
reopened_going stage going whole = by stage.end refl
  where
    by : (e : DumpEnd) → stage.end ≡ e → end_again e ≡ e
    by Open is = refl
    by Whole is = absurd (let ended = whole is in cc)
    by Disk is = refl
    by (Differs kept given) is = refl
    by (OtherKey kept given) is = refl

module _ {D : Type 0} (w : DiskWords D) where
  -- the stage went where the items lead
  went : (old new : DumpStage) (items : List DumpItem) (turn : Turn) → (old.end ≡ Whole → old.ended ≡ true) → IsTurn old items new turn → Went old.end old.dumper.appended items new.end new.dumper.appended
  went old new items Moved whole (going, taken) =
      subst (λ l. Went old.end old.dumper.appended l new.end new.dumper.appended) (sym taken.one)
      (new.end, new.dumper.appended, subst (λ (e : DumpEnd). Leads e old.dumper.appended taken.item new.end new.dumper.appended) (sym (reopened_going old going whole)) taken.leads, (inl refl, refl))
  went old new items Blocked whole (going, none, same) =
      subst (λ l. Went old.end old.dumper.appended l new.end new.dumper.appended) (sym none) (inl (ap (λ (s : DumpStage). s.end) same), ap (λ (s : DumpStage). s.dumper.appended) same)
  went old new items Done whole (going, none, same) =
      subst (λ l. Went old.end old.dumper.appended l new.end new.dumper.appended) (sym none) (inl (ap (λ (s : DumpStage). s.end) same), ap (λ (s : DumpStage). s.dumper.appended) same)

  -- what it got is closed as it says
  did : (old new : DumpStage) (items : List DumpItem) (turn : Turn) → IsTurn old items new turn → (window : ℕ) (before : List DumpItem) → EndsAs closes_dump_window window old.ended before → EndsAs closes_dump_window window new.ended (before ++ items)
  did old new items Moved (going, taken) window before ends =
      subst (λ l. EndsAs closes_dump_window window new.ended (before ++ l)) (sym taken.one)
      (one_more_item window before taken.item new.ended taken.ended (subst (λ (b : Bool). EndsAs closes_dump_window window b before) going ends))
  did old new items Blocked (going, none, same) window before ends = none_more old new items window before none same ends
  did old new items Done (going, none, same) window before ends = none_more old new items window before none same ends

  cost : (old new : DumpStage) (items : List DumpItem) (turn : Turn) → IsTurn old items new turn → 0 + one_if (is_move turn) ≤ 0 + 1 * length items
  cost old new items Moved (going, taken) = let one : length items ≡ 1 = ap length taken.one in omega (arith, one)
  cost old new items Blocked said = omega arith
  cost old new items Done said = omega arith

  pub takes : (old new : StagedDisk D) (lane later : PlainLane DumpItem) (items : List DumpItem) (turn : Turn) → CameOut lane items later → IsTurn old.stage items new.stage turn → IsStanding w old.stage old.disk
      → (IsTrue w.tells → Carries w old.stage old.disk items new.stage new.disk) → FailsBy w old.stage old.disk new.stage new.disk → w.faults old.disk ≤ w.faults new.disk → TakesItems (dump_account w) old new lane later turn
  takes old new lane later items turn flows is standing carries fails more = record {
    items = items;
    flows = flows;
    did = did old.stage new.stage items turn is;
    cost = cost old.stage new.stage items turn is;
    turned = record { carries = carries; later = more; fails = fails; went = went old.stage new.stage items turn (λ whole. (standing.whole whole).0) is };
  }

  pub says : (old new : StagedDisk D) (lane later : PlainLane DumpItem) (items : List DumpItem) (turn : Turn) → CameOut lane items later → IsTurn old.stage items new.stage turn → (turn ≡ Blocked → held later ≡ []) → DumpSays (dump_account w) old new lane later turn
  says old new lane later items Moved flows is empty = is.0
  says old new lane later items Blocked flows (going, none, same) empty =
      (going, ap (λ (s : DumpStage). s.ended) same ∙ going, sym (flows.first ∙ ap (λ l. l ++ held later) none), empty refl)
  says old new lane later items Done flows (going, none, same) empty =
      (going, ap (λ (s : DumpStage). s.ended) same ∙ going, sym (flows.first ∙ ap (λ l. l ++ held later) none))

  -- a stage that is opened again
  reopens_ready : (plan : OutputPlan) (txns : List Transaction) (sent : ℕ) (old new : DumpStage) (disk : D) → new.dumper ≡ old.dumper → new.end ≡ end_again old.end → IsReadyFor w plan txns sent old disk → IsReadyFor w plan txns sent new disk
  reopens_ready plan txns sent old new disk same again (inr failed) = inr (again ∙ ap end_again failed)
  reopens_ready plan txns sent old new disk same again (inl working) = inl (record {
    well = ap is_well again ∙ well_again old.end working.well;
    fronts = subst (λ (d : DumperState). AreFrontsOf plan txns d (w.seen disk)) (sym same) working.fronts;
    counted = let count : new.dumper.appended.count ≡ old.dumper.appended.count = ap (λ (d : DumperState). d.appended.count) same in let reached = working.counted in omega (arith, count, reached);
  })

  pub reopens : ((plan : OutputPlan) (txns : List Transaction) (disk : D) → IsTrue w.tells → LosesNothing w plan txns disk disk) → (old new : DumpStage) (disk : D) → new.dumper ≡ old.dumper → new.end ≡ end_again old.end → HasGone w (staged old disk) [] (staged new disk)
  reopens nothing old new disk same again = record {
    carries = λ told plan txns sent ready units. record { keeps = nothing plan txns disk told; ready = subst (λ n. IsReadyFor w plan txns n new disk) (sym (add-zero sent)) (reopens_ready plan txns sent old new disk same again ready) };
    later = omega arith;
    fails = λ is. inl (failed_before old.end (sym again ∙ is));
    went = (inr again, ap (λ (d : DumperState). d.appended) same);
  }
