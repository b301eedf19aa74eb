-- What goes onto an output's lane, and what waits for it.
use Rattle.std.proofs.Common.{◌≡◌, ℕ, ◌<◌, Bool, true, false, List, [], ◌∷◌, ◌++◌, length, map, get_or, set, refl, sym, ◌∙◌, ap, subst, append-nil, Option, Some, None}
use Rattle.std.specs.List.{AllZip}
use Rattle.cdc_base.specs.declared.rename.Rename.{Rename}
use Rattle.cdc_model.specs.declared.layout.Layout.{Layout}
use Rattle.cdc_model.specs.Records.{Transaction, OutputUnit}
use Rattle.cdc_model.specs.Unit.{unit_of}
use Rattle.cdc_turns.specs.Ends.{EndsAs}
use Rattle.cdc_turns.specs.Joined.{joined, nothing_for}
use Rattle.cdc_turns.proofs.Counting.{stays_open, closes_now}
use Rattle.cdc_turns.proofs.Lanewise.{joined_nothing, joined_one}
use Rattle.cdc_turns.proofs.Pairwise.{zip_at, zip_long, zip_set}
use Rattle.cdc_item.specs.declared.node_item.NodeItem.{NodeItem}
use Rattle.cdc_item.specs.declared.dump_item.DumpItem.{DumpItem}
use Rattle.cdc_item.specs.declared.dump_item.DumpItem.TheVariants.{Unit as OneUnit, End}
use Rattle.cdc_item.specs.Item.{closes_node_window, closes_dump_window, units_among}
use Rattle.cdc_merge_stage.specs.Making.{units_behind, layout_behind}
use Rattle.cdc_merge_stage.specs.Merged.{MergeState, MergeDid, feeds_of, items_in, IsOut}
use Rattle.cdc_merge_stage.specs.Merged.{all_none}
use Rattle.cdc_merge_stage.specs.Passing.{pushed}
use Rattle.cdc_merge_stage.proofs.Accepting.{made_as}
use Rattle.cdc_merge_stage.proofs.MakerSteps.{units_more}

-- an item that waited was given
out_given : (window : ℕ) (closing : Bool) (item : DumpItem) (items : List DumpItem) → IsOut window closing (Some item) items → IsOut window closing None (items ++ item ∷ [])
out_given window false (OneUnit unit) items (ends, waits) = (stays_open closes_dump_window window items (OneUnit unit) refl ends, tt)
out_given window false End items (ends, waits) = absurd waits
out_given window true item items (ends, is) = closes_now closes_dump_window window items item is ends

pub did_pushed : {I O : Type 0} (old : MergeState) (out : ℕ) (item : DumpItem) (ins : List I) (outs : List O) → get_or old.slots out None ≡ Some item → out < length old.slots → length ins ≡ length old.took → length outs ≡ length old.slots
    → (window : ℕ) (takes : List (List NodeItem)) (gives : List (List DumpItem)) → MergeDid window old takes gives → MergeDid window (pushed old out) (joined takes (nothing_for ins)) (joined gives (set (nothing_for outs) out (item ∷ [])))
did_pushed old out item ins outs waits within many_ins many_outs window takes gives did =
    let long_in = zip_long (EndsAs closes_node_window window) old.took takes did.ins in
    let long_out = zip_long (IsOut window old.closing) old.slots gives did.outs in
    let had = get_or gives out [] in
    subst (λ (l : List (List NodeItem)). MergeDid window (pushed old out) l (joined gives (set (nothing_for outs) out (item ∷ [])))) (sym (joined_nothing takes ins (many_ins ∙ long_in)))
    (subst (λ (l : List (List DumpItem)). MergeDid window (pushed old out) takes l) (joined_one gives outs out (item ∷ []) (many_outs ∙ long_out))
    (record {
      ins = did.ins;
      outs = zip_set (IsOut window old.closing) old.slots gives out None (had ++ item ∷ []) did.outs
          (out_given window old.closing item had (subst (λ (slot : Option DumpItem). IsOut window old.closing slot had) waits (zip_at (IsOut window old.closing) old.slots gives out None [] did.outs within)));
      merged = λ kept.
          let m = did.merged kept in
          let units = units_behind old.maker.rules old.maker.rotation old.start.before m.gave in
          let P : Option DumpItem → List DumpItem → Type 0 = λ (slot : Option DumpItem) (items : List DumpItem). units_among (items ++ items_in slot) ≡ units in
          let was : units_among (had ++ item ∷ []) ≡ units = subst (λ (slot : Option DumpItem). P slot had) waits (zip_at P old.slots gives out None [] m.outs within) in
          record {
            gave = m.gave;
            made = made_as old (pushed old out) (feeds_of takes) m.gave old.end refl refl m.made;
            fits = m.fits;
            few = m.few;
            behind = m.behind;
            outs = zip_set P old.slots gives out None (had ++ item ∷ []) m.outs (ap units_among (append-nil (had ++ item ∷ [])) ∙ was);
          };
    }))

-- ---- what waits for all lanes

-- where nothing waits, one thing does behind it
pub zip_filled : {B : Type 0} (P Q : Option DumpItem → B → Type 0) (slot : Option DumpItem) → ((b : B) → P None b → Q slot b) → (slots : List (Option DumpItem)) (bs : List B) → all_none slots ≡ true → AllZip P slots bs → AllZip Q (map (λ _. slot) slots) bs
zip_filled P Q slot step [] [] none all = tt
zip_filled P Q slot step [] (b ∷ bs) none all = absurd all
zip_filled P Q slot step (s ∷ slots) [] none all = absurd all
zip_filled P Q slot step (None ∷ slots) (b ∷ bs) none (first, all) = (step b first, zip_filled P Q slot step slots bs none all)
zip_filled P Q slot step (Some item ∷ slots) (b ∷ bs) none (first, all) = absurd cc

among_more : (items : List DumpItem) (unit : OutputUnit) → units_among (items ++ OneUnit unit ∷ []) ≡ units_among items ++ unit ∷ []
among_more [] unit = refl
among_more (OneUnit first ∷ items) unit = ap (λ (l : List OutputUnit). first ∷ l) (among_more items unit)
among_more (End ∷ items) unit = among_more items unit

among_end : (items : List DumpItem) → units_among (items ++ End ∷ []) ≡ units_among items
among_end [] = refl
among_end (OneUnit first ∷ items) = ap (λ (l : List OutputUnit). first ∷ l) (among_end items)
among_end (End ∷ items) = among_end items

-- a unit more, of the next transaction
pub outs_filled : (rules : List Rename) (rotation : ℕ) (before here : Layout) (gave : List Transaction) (txn : Transaction) (unit : OutputUnit) → unit ≡ unit_of rules rotation txn here → here ≡ layout_behind rules rotation before gave
    → (slots : List (Option DumpItem)) (gives : List (List DumpItem)) → all_none slots ≡ true → AllZip (λ (slot : Option DumpItem) (items : List DumpItem). units_among (items ++ items_in slot) ≡ units_behind rules rotation before gave) slots gives
    → AllZip (λ (slot : Option DumpItem) (items : List DumpItem). units_among (items ++ items_in slot) ≡ units_behind rules rotation before (gave ++ txn ∷ [])) (map (λ _. Some (OneUnit unit)) slots) gives
outs_filled rules rotation before here gave txn unit is at slots gives none outs =
    zip_filled (λ (slot : Option DumpItem) (items : List DumpItem). units_among (items ++ items_in slot) ≡ units_behind rules rotation before gave)
    (λ (slot : Option DumpItem) (items : List DumpItem). units_among (items ++ items_in slot) ≡ units_behind rules rotation before (gave ++ txn ∷ []))
    (Some (OneUnit unit))
    (λ items had.
    among_more items unit ∙ ap (λ (l : List OutputUnit). l ++ unit ∷ []) (ap units_among (sym (append-nil items)) ∙ had)
    ∙ ap (λ (u : OutputUnit). units_behind rules rotation before gave ++ u ∷ []) (is ∙ ap (unit_of rules rotation txn) at)
    ∙ sym (units_more rules rotation before gave txn))
    slots gives none outs

-- the Ends
pub outs_closed : (units : List OutputUnit) (slots : List (Option DumpItem)) (gives : List (List DumpItem)) → all_none slots ≡ true → AllZip (λ (slot : Option DumpItem) (items : List DumpItem). units_among (items ++ items_in slot) ≡ units) slots gives
    → AllZip (λ (slot : Option DumpItem) (items : List DumpItem). units_among (items ++ items_in slot) ≡ units) (map (λ _. Some End) slots) gives
outs_closed units slots gives none outs =
    zip_filled (λ (slot : Option DumpItem) (items : List DumpItem). units_among (items ++ items_in slot) ≡ units) (λ (slot : Option DumpItem) (items : List DumpItem). units_among (items ++ items_in slot) ≡ units) (Some End)
    (λ items had. among_end items ∙ ap units_among (sym (append-nil items)) ∙ had) slots gives none outs

pub out_filled : (window : ℕ) (unit : OutputUnit) (slots : List (Option DumpItem)) (gives : List (List DumpItem)) → all_none slots ≡ true → AllZip (IsOut window false) slots gives → AllZip (IsOut window false) (map (λ _. Some (OneUnit unit)) slots) gives
out_filled window unit slots gives none outs = zip_filled (IsOut window false) (IsOut window false) (Some (OneUnit unit)) (λ items had. (had.0, tt)) slots gives none outs

pub out_closed : (window : ℕ) (slots : List (Option DumpItem)) (gives : List (List DumpItem)) → all_none slots ≡ true → AllZip (IsOut window false) slots gives → AllZip (IsOut window true) (map (λ _. Some End) slots) gives
out_closed window slots gives none outs = zip_filled (IsOut window false) (IsOut window true) (Some End) (λ items had. (had.0, refl)) slots gives none outs
