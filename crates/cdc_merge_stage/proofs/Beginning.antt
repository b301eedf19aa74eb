-- A stage that has taken and given nothing.
use Rattle.std.proofs.Common.{◌≡◌, ℕ, zero, suc, ◌+◌, Bool, false, List, [], ◌∷◌, ◌++◌, length, refl, sym, ◌∙◌, ap, subst, arith, Option, None}
use Rattle.std.specs.List.{AllZip, All}
use Rattle.cdc_base.specs.declared.rename.Rename.{Rename}
use Rattle.cdc_model.specs.Feed.{NodeFeed}
use Rattle.cdc_merger.specs.Merging.{no_feeds}
use Rattle.cdc_turns.specs.Ends.{EndsAs}
use Rattle.cdc_turns.specs.Joined.{nothing_for}
use Rattle.cdc_item.specs.declared.node_item.NodeItem.{NodeItem}
use Rattle.cdc_item.specs.declared.dump_item.DumpItem.{DumpItem}
use Rattle.cdc_item.specs.Item.{closes_node_window, units_among}
use Rattle.cdc_merge_stage.specs.declared.start.MergeStart.{MergeStart}
use Rattle.cdc_merge_stage.specs.declared.merge_end.MergeEnd.TheVariants.{Open}
use Rattle.cdc_merge_stage.specs.Making.{MakerState, Makes, start_behind}
use Rattle.cdc_merge_stage.proofs.MakerSteps.{start_with}
use Rattle.cdc_merge_stage.specs.Merged.{MergeDid, IsOut, feeds_of, items_in, stage_with}

later : {A : Type 0} (P : A → Type 0) (x : A) (xs : List A) → All P (x ∷ xs) → All P xs
later P x xs all = λ k d within. all (suc k) d (omega (arith, within))

ins_begun : (took : List Bool) → All (λ flag. flag ≡ false) took → AllZip (EndsAs closes_node_window 1) took (nothing_for {T = NodeItem} took)
ins_begun [] all = tt
ins_begun (flag ∷ took) all = (subst (λ (b : Bool). EndsAs closes_node_window 1 b []) (sym (all zero flag (omega arith))) refl, ins_begun took (later (λ f. f ≡ false) flag took all))

outs_begun : (slots : List (Option DumpItem)) → All (λ slot. slot ≡ None) slots → AllZip (IsOut 1 false) slots (nothing_for {T = DumpItem} slots)
outs_begun [] all = tt
outs_begun (slot ∷ slots) all = (subst (λ (s : Option DumpItem). IsOut 1 false s []) (sym (all zero slot (omega arith))) (refl, tt), outs_begun slots (later (λ s. s ≡ None) slot slots all))

units_begun : (slots : List (Option DumpItem)) → All (λ slot. slot ≡ None) slots → AllZip (λ (slot : Option DumpItem) (items : List DumpItem). units_among (items ++ items_in slot) ≡ []) slots (nothing_for {T = DumpItem} slots)
units_begun [] all = tt
units_begun (slot ∷ slots) all = (subst (λ (s : Option DumpItem). units_among ([] ++ items_in s) ≡ []) (sym (all zero slot (omega arith))) refl, units_begun slots (later (λ s. s ≡ None) slot slots all))

feeds_begun : (took : List Bool) → feeds_of (nothing_for took) ≡ no_feeds (length took)
feeds_begun [] = refl
feeds_begun (flag ∷ took) = ap (λ (l : List NodeFeed). record { branches = []; bound = 0 } ∷ l) (feeds_begun took)

none_behind : (rules : List Rename) (rotation : ℕ) (start : MergeStart) → start ≡ start_behind rules rotation start []
none_behind rules rotation start = ap (λ (n : ℕ). start_with n start.last start.before) (let e : start.count ≡ start.count + 0 = omega arith in e)

pub begun : (maker : MakerState) (start : MergeStart) (nodes : ℕ) (took : List Bool) (slots : List (Option DumpItem)) → Makes maker start (no_feeds nodes) [] → length took ≡ nodes → All (λ flag. flag ≡ false) took → All (λ slot. slot ≡ None) slots
    → MergeDid 1 (stage_with maker start start took slots false Open) (nothing_for took) (nothing_for slots)
begun maker start nodes took slots makes long none_ended none_waits = record {
  ins = ins_begun took none_ended;
  outs = outs_begun slots none_waits;
  merged = λ kept. record {
    gave = [];
    made = subst (λ (feeds : List NodeFeed). Makes maker start feeds []) (ap no_feeds (sym long) ∙ sym (feeds_begun took)) makes;
    fits = tt;
    few = λ some. absurd (omega (arith, some));
    behind = none_behind maker.rules maker.rotation start;
    outs = units_begun slots none_waits;
  };
}
