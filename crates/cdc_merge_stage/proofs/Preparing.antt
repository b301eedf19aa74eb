-- What is made, and how it ends.
use Rattle.std.proofs.Common.{◌≡◌, ◌<◌, ◌≤◌, ◌+◌, ◌^◌, length, arith, ℕ, Bool, true, false, List, [], ◌∷◌, ◌++◌, map, refl, sym, ◌∙◌, ap, subst, Option, Some}
use Rattle.std.specs.List.{AllZip, AllByRecursion}
use Rattle.cdc_base.specs.declared.rename.Rename.{Rename}
use Rattle.cdc_model.specs.Records.{Transaction, OutputUnit}
use Rattle.cdc_model.specs.SettledOrder.{IsFront}
use Rattle.cdc_model.specs.Feed.{NodeFeed, merged_transactions}
use Rattle.cdc_turns.specs.Ends.{EndsAs}
use Rattle.cdc_item.specs.declared.node_item.NodeItem.{NodeItem}
use Rattle.cdc_item.specs.declared.dump_item.DumpItem.{DumpItem}
use Rattle.cdc_item.specs.declared.dump_item.DumpItem.TheVariants.{Unit as OneUnit, End}
use Rattle.cdc_item.specs.Item.{closes_node_window, units_among}
use Rattle.cdc_merge_stage.specs.declared.start.MergeStart.{MergeStart}
use Rattle.cdc_merge_stage.specs.declared.merge_end.MergeEnd.{MergeEnd}
use Rattle.cdc_merge_stage.specs.declared.merge_end.MergeEnd.TheVariants.{Open, Whole, TooLarge, Memory}
use Rattle.cdc_merge_stage.specs.Making.{MakerState, Makes, IsTooLarge, PrintFits, start_behind, unit_behind, units_behind, MakesNext}
use Rattle.cdc_merge_stage.specs.Merged.{MergeState, MergeDid, HasGivenUnits, HasMade, AreKept, feeds_of, items_in, IsOut, merges_on, all_none}
use Rattle.cdc_merge_stage.specs.declared.maker.Made.{Made}
use Rattle.cdc_merge_stage.specs.declared.maker.Made.TheVariants.{Unit as MadeUnit, Nothing as MadeNothing, TooLarge as MadeTooLarge, Memory as MadeMemory}
use Rattle.cdc_merge_stage.specs.declared.stage.MakeStep.{MakeStep}
use Rattle.cdc_merge_stage.specs.declared.stage.MakeStep.TheVariants.{Filled, Ended, Nothing}
use Rattle.cdc_merge_stage.specs.Passing.{IsQuiet, HasFilled, AfterMake}
use Rattle.cdc_merge_stage.proofs.GivenFront.{gave_front}
use Rattle.cdc_merge_stage.proofs.MakerSteps.{front_less, next_number, behind_more, same_behind}
use Rattle.cdc_merge_stage.proofs.Accepting.{made_as}
use Rattle.cdc_merge_stage.proofs.Pushing.{outs_filled, outs_closed, out_filled, out_closed}

pub open_end : (e : MergeEnd) → merges_on e ≡ true → e ≡ Open
open_end Open is = refl
open_end Whole is = absurd cc
open_end (TooLarge number bytes) is = absurd cc
open_end Memory is = absurd cc

-- what was made has few transactions
pub few_made : (maker : MakerState) (start : MergeStart) (feeds : List NodeFeed) (gave : List Transaction) → Makes maker start feeds gave → 0 < length gave → start.count + length gave ≤ 2 ^ 62
few_made maker start feeds gave makes some =
    let counted = makes.counted in
    let few = makes.few (omega (arith, some, counted)) in
    omega (arith, few, counted)

-- what the maker gives next
abbrev pub MakerNext : MakerState → MakerState → Made → Type 0
MakerNext old new made = (start : MergeStart) (feeds : List NodeFeed) (gave : List Transaction) → Makes old start feeds gave → MakesNext old new start feeds gave made

pub same_units : (old new : MergeState) → new.start ≡ old.start → new.maker.rules ≡ old.maker.rules → new.maker.rotation ≡ old.maker.rotation → (gave : List Transaction)
    → units_behind new.maker.rules new.maker.rotation new.start.before gave ≡ units_behind old.maker.rules old.maker.rotation old.start.before gave
same_units old new start rules rotation gave =
    ap (λ (r : List Rename). units_behind r new.maker.rotation new.start.before gave) rules ∙ ap (λ (r : ℕ). units_behind old.maker.rules r new.start.before gave) rotation
    ∙ ap (λ (v : MergeStart). units_behind old.maker.rules old.maker.rotation v.before gave) start

module _ (old new : MergeState) (took : new.took ≡ old.took) (start : new.start ≡ old.start) (rules : new.maker.rules ≡ old.maker.rules) (rotation : new.maker.rotation ≡ old.maker.rotation) where
  -- nothing new waits
  pub all_fit : (gave : List Transaction) → AllByRecursion (PrintFits old.maker.rules) gave → AllByRecursion (PrintFits new.maker.rules) gave
  all_fit gave fits = subst (λ (r : List Rename). AllByRecursion (PrintFits r) gave) (sym rules) fits

  abbrev pub merged_as : new.slots ≡ old.slots → new.behind ≡ old.behind → (takes : List (List NodeItem)) (gives : List (List DumpItem)) (m : HasGivenUnits old (feeds_of takes) gives) → HasMade new (feeds_of takes) m.gave new.end → HasGivenUnits new (feeds_of takes) gives
  merged_as slots behind takes gives m made = record {
    gave = m.gave;
    made = made;
    fits = all_fit m.gave m.fits;
    few = subst (λ (v : MergeStart). 0 < length m.gave → v.count + length m.gave ≤ 2 ^ 62) (sym start) m.few;
    behind = behind ∙ m.behind ∙ sym (same_behind old.maker.rules new.maker.rules old.maker.rotation new.maker.rotation old.start new.start m.gave rules rotation start);
    outs = subst (λ (l : List (Option DumpItem)). AllZip (λ (slot : Option DumpItem) (items : List DumpItem). units_among (items ++ items_in slot) ≡ units_behind new.maker.rules new.maker.rotation new.start.before m.gave) l gives) (sym slots)
        (subst (λ (u : List OutputUnit). AllZip (λ (slot : Option DumpItem) (items : List DumpItem). units_among (items ++ items_in slot) ≡ u) old.slots gives) (sym (same_units old new start rules rotation m.gave)) m.outs);
  }

  pub did_as : new.slots ≡ old.slots → new.behind ≡ old.behind → new.closing ≡ old.closing → (window : ℕ) (takes : List (List NodeItem)) (gives : List (List DumpItem)) → MergeDid window old takes gives
      → (AreKept old.start takes → (gave : List Transaction) → HasMade old (feeds_of takes) gave old.end → HasMade new (feeds_of takes) gave new.end) → MergeDid window new takes gives
  did_as slots behind closing window takes gives did made = record {
    ins = subst (λ (l : List Bool). AllZip (EndsAs closes_node_window window) l takes) (sym took) did.ins;
    outs = subst (λ (c : Bool). AllZip (IsOut window c) new.slots gives) (sym closing) (subst (λ (l : List (Option DumpItem)). AllZip (IsOut window old.closing) l gives) (sym slots) did.outs);
    merged = λ kept_new.
        let kept = subst (λ (v : MergeStart). AreKept v takes) start kept_new in
        let m = did.merged kept in
        merged_as slots behind takes gives m (made kept m.gave m.made);
  }

  -- a unit waits for each lane
  pub did_filled : (unit : OutputUnit) → MakerNext old.maker new.maker (MadeUnit unit) → old.end ≡ Open → new.end ≡ Open → all_none old.slots ≡ true → old.closing ≡ false → new.closing ≡ false → new.slots ≡ map (λ _. Some (OneUnit unit)) old.slots → new.behind ≡ unit_behind unit
      → (window : ℕ) (takes : List (List NodeItem)) (gives : List (List DumpItem)) → MergeDid window old takes gives → MergeDid window new takes gives
  did_filled unit next was is none going going_new slots behind window takes gives did = record {
    ins = subst (λ (l : List Bool). AllZip (EndsAs closes_node_window window) l takes) (sym took) did.ins;
    outs = subst (λ (c : Bool). AllZip (IsOut window c) new.slots gives) (sym going_new) (subst (λ (l : List (Option DumpItem)). AllZip (IsOut window false) l gives) (sym slots)
        (out_filled window unit old.slots gives none (subst (λ (c : Bool). AllZip (IsOut window c) old.slots gives) going did.outs)));
    merged = λ kept_new.
        let kept = subst (λ (v : MergeStart). AreKept v takes) start kept_new in
        let m = did.merged kept in
        let makes = subst (HasMade old (feeds_of takes) m.gave) was m.made in
        let one = next old.start (feeds_of takes) m.gave makes in
        record {
          gave = m.gave ++ one.0 ∷ [];
          made = subst (HasMade new (feeds_of takes) (m.gave ++ one.0 ∷ [])) (sym is) (subst (λ (v : MergeStart). Makes new.maker v (feeds_of takes) (m.gave ++ one.0 ∷ [])) (sym start) one.2);
          fits = all_fit (m.gave ++ one.0 ∷ []) (subst (λ (r : List Rename). AllByRecursion (PrintFits r) (m.gave ++ one.0 ∷ [])) rules one.2.fits);
          few = subst (λ (v : MergeStart). 0 < length (m.gave ++ one.0 ∷ []) → v.count + length (m.gave ++ one.0 ∷ []) ≤ 2 ^ 62) (sym start)
              (few_made new.maker old.start (feeds_of takes) (m.gave ++ one.0 ∷ []) one.2);
          behind =
              behind ∙ behind_more old.maker.rules old.maker.rotation old.start m.gave one.0 unit old.maker.before one.1 makes.stands (next_number new.maker.merger old.start.count old.start.last (feeds_of takes) m.gave one.0 one.2.merges)
              ∙ sym (same_behind old.maker.rules new.maker.rules old.maker.rotation new.maker.rotation old.start new.start (m.gave ++ one.0 ∷ []) rules rotation start);
          outs = subst (λ (l : List (Option DumpItem)). AllZip (λ (slot : Option DumpItem) (items : List DumpItem). units_among (items ++ items_in slot) ≡ units_behind new.maker.rules new.maker.rotation new.start.before (m.gave ++ one.0 ∷ [])) l gives) (sym slots)
              (subst (λ (u : List OutputUnit). AllZip (λ (slot : Option DumpItem) (items : List DumpItem). units_among (items ++ items_in slot) ≡ u) (map (λ _. Some (OneUnit unit)) old.slots) gives) (sym (same_units old new start rules rotation (m.gave ++ one.0 ∷ [])))
              (outs_filled old.maker.rules old.maker.rotation old.start.before old.maker.before m.gave one.0 unit one.1 makes.stands old.slots gives none m.outs));
        };
  }

  -- there was no memory for the unit on each lane
  pub did_unfilled : (unit : OutputUnit) → MakerNext old.maker new.maker (MadeUnit unit) → old.end ≡ Open → new.end ≡ Memory → new.slots ≡ old.slots → new.behind ≡ old.behind → new.closing ≡ old.closing
      → (window : ℕ) (takes : List (List NodeItem)) (gives : List (List DumpItem)) → MergeDid window old takes gives → MergeDid window new takes gives
  did_unfilled unit next was is slots behind closing window takes gives did = did_as slots behind closing window takes gives did
      (λ kept gave made.
      let one = next old.start (feeds_of takes) gave (subst (HasMade old (feeds_of takes) gave) was made) in
      subst (HasMade new (feeds_of takes) gave) (sym is) (subst (λ (v : MergeStart). IsFront gave (merged_transactions v.count (feeds_of takes))) (sym start)
      (front_less gave (merged_transactions old.start.count (feeds_of takes)) one.0 (gave_front new.maker.merger old.start.count old.start.last (feeds_of takes) (gave ++ one.0 ∷ []) one.2.merges))))

  -- the next print is too large
  pub did_too_large : (number bytes : ℕ) → MakerNext old.maker new.maker (MadeTooLarge number bytes) → old.end ≡ Open → new.end ≡ TooLarge number bytes → new.slots ≡ old.slots → new.behind ≡ old.behind → new.closing ≡ old.closing
      → (window : ℕ) (takes : List (List NodeItem)) (gives : List (List DumpItem)) → MergeDid window old takes gives → MergeDid window new takes gives
  did_too_large number bytes next was is slots behind closing window takes gives did = did_as slots behind closing window takes gives did
      (λ kept gave made.
      let one = next old.start (feeds_of takes) gave (subst (HasMade old (feeds_of takes) gave) was made) in
      subst (HasMade new (feeds_of takes) gave) (sym is) (subst (λ (v : MergeStart). IsTooLarge new.maker.rules v (feeds_of takes) gave number bytes) (sym start)
      (subst (λ (r : List Rename). IsTooLarge r old.start (feeds_of takes) gave number bytes) (sym rules) one)))

  -- there was no memory
  pub did_memory : MakerNext old.maker new.maker MadeMemory → old.end ≡ Open → new.end ≡ Memory → new.slots ≡ old.slots → new.behind ≡ old.behind → new.closing ≡ old.closing
      → (window : ℕ) (takes : List (List NodeItem)) (gives : List (List DumpItem)) → MergeDid window old takes gives → MergeDid window new takes gives
  did_memory next was is slots behind closing window takes gives did = did_as slots behind closing window takes gives did
      (λ kept gave made.
      let one = next old.start (feeds_of takes) gave (subst (HasMade old (feeds_of takes) gave) was made) in
      subst (HasMade new (feeds_of takes) gave) (sym is) (subst (λ (v : MergeStart). IsFront gave (merged_transactions v.count (feeds_of takes))) (sym start) one))

  -- no more is settled
  pub did_nothing : MakerNext old.maker new.maker MadeNothing → old.end ≡ Open → new.end ≡ Open → new.slots ≡ old.slots → new.behind ≡ old.behind → new.closing ≡ old.closing
      → (window : ℕ) (takes : List (List NodeItem)) (gives : List (List DumpItem)) → MergeDid window old takes gives → MergeDid window new takes gives × (AreKept new.start takes → IsQuiet new takes gives)
  did_nothing next was is slots behind closing window takes gives did = (
    did_as slots behind closing window takes gives did (λ kept gave made. still kept gave made),
    λ kept_new.
        let kept = subst (λ (v : MergeStart). AreKept v takes) start kept_new in
        let m = did.merged kept in
        let one = next old.start (feeds_of takes) m.gave (subst (HasMade old (feeds_of takes) m.gave) was m.made) in
        record {
          merged = merged_as slots behind takes gives m (still kept m.gave m.made);
          all = one.0 ∙ ap (λ (v : MergeStart). merged_transactions v.count (feeds_of takes)) (sym start);
        },
  )
    where
      still : AreKept old.start takes → (gave : List Transaction) → HasMade old (feeds_of takes) gave old.end → HasMade new (feeds_of takes) gave new.end
      still kept gave made =
          let one = next old.start (feeds_of takes) gave (subst (HasMade old (feeds_of takes) gave) was made) in
          subst (HasMade new (feeds_of takes) gave) (sym is) (subst (λ (v : MergeStart). Makes new.maker v (feeds_of takes) gave) (sym start) one.1)

  -- the Ends wait for all lanes
  pub did_closed : new.maker ≡ old.maker → new.behind ≡ old.behind → (merges_on old.end ≡ true → new.end ≡ Whole) → (merges_on old.end ≡ false → new.end ≡ old.end) → all_none old.slots ≡ true → old.closing ≡ false → new.closing ≡ true → new.slots ≡ map (λ _. Some End) old.slots
      → (window : ℕ) (takes : List (List NodeItem)) (gives : List (List DumpItem)) → MergeDid window old takes gives → (merges_on old.end ≡ true → AreKept old.start takes → IsQuiet old takes gives) → MergeDid window new takes gives
  did_closed maker behind whole same none going closing slots window takes gives did quiet = record {
    ins = subst (λ (l : List Bool). AllZip (EndsAs closes_node_window window) l takes) (sym took) did.ins;
    outs = subst (λ (c : Bool). AllZip (IsOut window c) new.slots gives) (sym closing) (subst (λ (l : List (Option DumpItem)). AllZip (IsOut window true) l gives) (sym slots)
        (out_closed window old.slots gives none (subst (λ (c : Bool). AllZip (IsOut window c) old.slots gives) going did.outs)));
    merged = λ kept_new. by_end (subst (λ (v : MergeStart). AreKept v takes) start kept_new) (merges_on old.end) refl;
  }
    where
      ends_now : (gave : List Transaction) → AllZip (λ (slot : Option DumpItem) (items : List DumpItem). units_among (items ++ items_in slot) ≡ units_behind old.maker.rules old.maker.rotation old.start.before gave) old.slots gives
          → AllZip (λ (slot : Option DumpItem) (items : List DumpItem). units_among (items ++ items_in slot) ≡ units_behind new.maker.rules new.maker.rotation new.start.before gave) new.slots gives
      ends_now gave had =
          subst (λ (l : List (Option DumpItem)). AllZip (λ (slot : Option DumpItem) (items : List DumpItem). units_among (items ++ items_in slot) ≡ units_behind new.maker.rules new.maker.rotation new.start.before gave) l gives) (sym slots)
          (subst (λ (u : List OutputUnit). AllZip (λ (slot : Option DumpItem) (items : List DumpItem). units_among (items ++ items_in slot) ≡ u) (map (λ _. Some End) old.slots) gives) (sym (same_units old new start rules rotation gave))
          (outs_closed (units_behind old.maker.rules old.maker.rotation old.start.before gave) old.slots gives none had))

      behind_now : (gave : List Transaction) → old.behind ≡ start_behind old.maker.rules old.maker.rotation old.start gave → new.behind ≡ start_behind new.maker.rules new.maker.rotation new.start gave
      behind_now gave was = behind ∙ was ∙ sym (same_behind old.maker.rules new.maker.rules old.maker.rotation new.maker.rotation old.start new.start gave rules rotation start)

      by_end : AreKept old.start takes → (b : Bool) → merges_on old.end ≡ b → HasGivenUnits new (feeds_of takes) gives
      by_end kept true is =
          let q = quiet is kept in
          let was = open_end old.end is in
          let makes : Makes old.maker old.start (feeds_of takes) q.merged.gave = subst (HasMade old (feeds_of takes) q.merged.gave) was q.merged.made in
          let done : HasMade old (feeds_of takes) q.merged.gave Whole = (makes, q.all) in
          record {
            gave = q.merged.gave;
            made = subst (HasMade new (feeds_of takes) q.merged.gave) (sym (whole is)) (made_as old new (feeds_of takes) q.merged.gave Whole maker start done);
            fits = all_fit q.merged.gave q.merged.fits;
            few = subst (λ (v : MergeStart). 0 < length q.merged.gave → v.count + length q.merged.gave ≤ 2 ^ 62) (sym start) q.merged.few;
            behind = behind_now q.merged.gave q.merged.behind;
            outs = ends_now q.merged.gave q.merged.outs;
          }
      by_end kept false is =
          let m = did.merged kept in
          record {
            gave = m.gave;
            made = subst (HasMade new (feeds_of takes) m.gave) (sym (same is)) (made_as old new (feeds_of takes) m.gave old.end maker start m.made);
            fits = all_fit m.gave m.fits;
            few = subst (λ (v : MergeStart). 0 < length m.gave → v.count + length m.gave ≤ 2 ^ 62) (sym start) m.few;
            behind = behind_now m.gave m.behind;
            outs = ends_now m.gave m.outs;
          }

-- what became of the next unit
pub made_unit : (old mid new : MergeState) (unit : OutputUnit) (step : MakeStep) → MakerNext old.maker mid.maker (MadeUnit unit) → mid.start ≡ old.start → mid.behind ≡ old.behind → mid.took ≡ old.took → mid.slots ≡ old.slots → mid.closing ≡ old.closing → mid.end ≡ old.end
    → mid.maker.rules ≡ old.maker.rules → mid.maker.rotation ≡ old.maker.rotation → old.end ≡ Open → all_none old.slots ≡ true → old.closing ≡ false
    → (new.maker ≡ mid.maker) × (new.start ≡ mid.start) × (new.took ≡ mid.took) × (new.closing ≡ mid.closing) → HasFilled mid unit new step
    → (window : ℕ) (takes : List (List NodeItem)) (gives : List (List DumpItem)) → MergeDid window old takes gives → AfterMake window new takes gives step
made_unit old mid new unit Filled next start behind took slots closing ends rules rotation was none going same filled window takes gives did =
    did_filled old new (same.2 ∙ took) (same.1 ∙ start) (ap (λ (m : MakerState). m.rules) same.0 ∙ rules) (ap (λ (m : MakerState). m.rotation) same.0 ∙ rotation) unit
    (subst (λ (m : MakerState). MakerNext old.maker m (MadeUnit unit)) (sym same.0) next) was (filled.1 ∙ ends ∙ was) none going (same.3 ∙ closing ∙ going)
    (filled.0 ∙ ap (λ (l : List (Option DumpItem)). map (λ _. Some (OneUnit unit)) l) slots) filled.2 window takes gives did
made_unit old mid new unit Ended next start behind took slots closing ends rules rotation was none going same filled window takes gives did =
    did_unfilled old new (same.2 ∙ took) (same.1 ∙ start) (ap (λ (m : MakerState). m.rules) same.0 ∙ rules) (ap (λ (m : MakerState). m.rotation) same.0 ∙ rotation) unit
    (subst (λ (m : MakerState). MakerNext old.maker m (MadeUnit unit)) (sym same.0) next) was filled.1 (filled.0 ∙ slots) (filled.2 ∙ behind) (same.3 ∙ closing) window takes gives did
made_unit old mid new unit Nothing next start behind took slots closing ends rules rotation was none going same filled window takes gives did = absurd filled
