-- A merge stage over plain lanes, as the driver sees it.
use Rattle.std.proofs.Common.{◌≡◌, ◌<◌, ◌≤◌, ◌^◌, inl, inr, ℕ, ◌+◌, ◌*◌, Bool, true, false, List, [], ◌∷◌, ◌++◌, length, map, refl, sym, ◌∙◌, ap, subst, arith, Option, Some, None}
use Rattle.std.specs.List.{AllZip, AllByRecursion}
use Rattle.std.proofs.lemmas.List.{length-map}
use Rattle.cdc_lane.specs.declared.plain.PlainLane.{PlainLane}
use Rattle.cdc_lane.specs.Held.{held, room_of, CameOut, WentIn}
use Rattle.cdc_turns.specs.declared.turn.Turn.{Turn}
use Rattle.cdc_turns.specs.declared.turn.Turn.TheVariants.{Moved, Blocked, Done}
use Rattle.cdc_turns.specs.Ends.{EndsAs, NextMerge}
use Rattle.cdc_turns.specs.Joined.{joined, contents, nothing_for, AllTurned}
use Rattle.cdc_turns.specs.Turns.{Passes, MergeSays, WaitsFor, RestsAs}
use Rattle.cdc_turns.proofs.Lanewise.{joined_nothing}
use Rattle.cdc_turns.proofs.Counting.{opens_next}
use Rattle.cdc_item.specs.declared.node_item.NodeItem.{NodeItem}
use Rattle.cdc_item.specs.declared.dump_item.DumpItem.{DumpItem}
use Rattle.cdc_item.specs.Item.{closes_node_window, units_among}
use Rattle.cdc_merge_stage.specs.declared.merge_end.MergeEnd.{MergeEnd}
use Rattle.cdc_merge_stage.specs.declared.merge_end.MergeEnd.TheVariants.{Open, Whole, TooLarge, Memory}
use Rattle.cdc_model.specs.Records.{Transaction, OutputUnit}
use Rattle.cdc_model.specs.Feed.{NodeFeed}
use Rattle.cdc_merge_stage.specs.declared.start.MergeStart.{MergeStart}
use Rattle.cdc_merge_stage.specs.Making.{MakerState, PrintFits, units_behind}
use Rattle.cdc_merge_stage.proofs.Accepting.{made_as}
use Rattle.cdc_merge_stage.proofs.MakerSteps.{same_behind}
use Rattle.cdc_merge_stage.specs.MergeLaws.{all_parts}
use Rattle.cdc_merge_stage.proofs.Preparing.{same_units}
use Rattle.cdc_merge_stage.specs.Merged.{MergeState, HasMade, IsOut, AreKept, feeds_of, has_given, has_ended, all_true, all_none, merge_account, merge_end_again, items_in}
use Rattle.cdc_merge_stage.specs.Passing.{MergeTurn, TurnSays, IsStill, WaitsAt}

came_out : {T : Type 0} (ins : List (PlainLane T)) (taken : List (List T)) (later : List (PlainLane T)) → AllTurned CameOut ins taken later → contents ins ≡ joined taken (contents later)
came_out [] [] [] all = refl
came_out [] [] (l ∷ later) all = absurd all
came_out [] (t ∷ taken) later all = absurd all
came_out (i ∷ ins) [] later all = absurd all
came_out (i ∷ ins) (t ∷ taken) [] all = absurd all
came_out (i ∷ ins) (t ∷ taken) (l ∷ later) all = ap (λ x. x ∷ contents ins) all.0.first ∙ ap (λ x. (t ++ held l) ∷ x) (came_out ins taken later all.1)

went_in : {T : Type 0} (outs : List (PlainLane T)) (given : List (List T)) (later : List (PlainLane T)) → AllTurned WentIn outs given later → contents later ≡ joined (contents outs) given
went_in [] [] [] all = refl
went_in [] [] (l ∷ later) all = absurd all
went_in [] (t ∷ given) later all = absurd all
went_in (o ∷ outs) [] later all = absurd all
went_in (o ∷ outs) (t ∷ given) [] all = absurd all
went_in (o ∷ outs) (t ∷ given) (l ∷ later) all = ap (λ x. x ∷ contents later) all.0.behind ∙ ap (λ x. (held o ++ t) ∷ x) (went_in outs given later all.1)

none_before : {A T : Type 0} (olds : List A) (lists : List (List T)) → length olds ≡ length lists → joined (nothing_for olds) lists ≡ lists
none_before [] lists long = refl
none_before (o ∷ olds) [] long = absurd (omega (arith, long))
none_before (o ∷ olds) (l ∷ lists) long = ap (λ x. l ∷ x) (none_before olds lists (omega (arith, long)))

pub passes : (old new : MergeState) (ins ins_later : List (PlainLane NodeItem)) (outs outs_later : List (PlainLane DumpItem)) (taken : List (List NodeItem)) (given : List (List DumpItem)) (turn : Turn) → AllTurned CameOut ins taken ins_later → AllTurned WentIn outs given outs_later
    → MergeTurn (λ (lane : PlainLane NodeItem). held lane ≡ []) (λ (lane : PlainLane DumpItem). length (held lane) ≡ room_of lane) old taken given new ins_later outs_later turn → Passes merge_account old new ins ins_later outs outs_later turn
passes old new ins ins_later outs outs_later taken given turn came went t = record {
  taken = taken;
  given = given;
  flows_in = came_out ins taken ins_later came;
  flows_out = went_in outs given outs_later went;
  did = t.passed.did;
  weighs = λ price. ap (λ n. (price + 1) * n + 1 + 1) t.passed.same.outs;
  cost = t.cost;
  width_in = t.passed.same.nodes;
  width_out = length-map new.slots (has_given new.closing) ∙ t.passed.same.outs ∙ sym (length-map old.slots (has_given old.closing));
  turned = t.passed.same;
}

rests : (old new : MergeState) (ins ins_later : List (PlainLane NodeItem)) (outs outs_later : List (PlainLane DumpItem)) (taken : List (List NodeItem)) (given : List (List DumpItem)) → AllTurned CameOut ins taken ins_later → AllTurned WentIn outs given outs_later → length outs_later ≡ length outs
    → IsStill old taken given new ins_later outs_later → RestsAs merge_account old new ins ins_later outs outs_later
rests old new ins ins_later outs outs_later taken given came went long still = record {
  held_in = sym (came_out ins taken ins_later came ∙ ap (λ (t : List (List NodeItem)). joined t (contents ins_later)) still.none_taken ∙ none_before ins_later (contents ins_later) (sym (length-map ins_later held)));
  held_out = went_in outs given outs_later went ∙ ap (λ (t : List (List DumpItem)). joined (contents outs) t) still.none_given ∙ joined_nothing (contents outs) outs_later (long ∙ sym (length-map outs held));
  took = still.took;
  gave = still.gave;
}

waits_for : (new : MergeState) (ins : List (PlainLane NodeItem)) (outs : List (PlainLane DumpItem)) → WaitsAt (λ (lane : PlainLane NodeItem). held lane ≡ []) (λ (lane : PlainLane DumpItem). length (held lane) ≡ room_of lane) new ins outs → WaitsFor merge_account new ins outs
waits_for new ins outs (inl (node, within, lane_empty, going)) = inl (node, (within, lane_empty), going)
waits_for new ins outs (inr (out, within, lane_full, going)) = inr (out, (within, lane_full), going)

pub says : (old new : MergeState) (ins ins_later : List (PlainLane NodeItem)) (outs outs_later : List (PlainLane DumpItem)) (taken : List (List NodeItem)) (given : List (List DumpItem)) (turn : Turn) → AllTurned CameOut ins taken ins_later → AllTurned WentIn outs given outs_later → length outs_later ≡ length outs
    → TurnSays (λ (lane : PlainLane NodeItem). held lane ≡ []) (λ (lane : PlainLane DumpItem). length (held lane) ≡ room_of lane) old taken given new ins_later outs_later turn → MergeSays merge_account old new ins ins_later outs outs_later turn
says old new ins ins_later outs outs_later taken given Moved came went long said = said
says old new ins ins_later outs outs_later taken given Blocked came went long (going, open_still, still, waits) =
    (going, open_still, rests old new ins ins_later outs outs_later taken given came went long still, waits_for new ins_later outs_later waits)
says old new ins ins_later outs outs_later taken given Done came went long (was, is, still) = (was, is, rests old new ins ins_later outs outs_later taken given came went long still)

-- ---- the next window

ins_again : (window : ℕ) (took : List Bool) (takes : List (List NodeItem)) → all_true took ≡ true → AllZip (EndsAs closes_node_window window) took takes → AllZip (EndsAs closes_node_window (window + 1)) (map (λ _. false) took) takes
ins_again window [] [] all ends = tt
ins_again window [] (t ∷ takes) all ends = absurd ends
ins_again window (f ∷ took) [] all ends = absurd ends
ins_again window (true ∷ took) (t ∷ takes) all ends = (opens_next closes_node_window window t ends.0, ins_again window took takes all ends.1)
ins_again window (false ∷ took) (t ∷ takes) all ends = absurd cc

outs_again : (window : ℕ) (slots : List (Option DumpItem)) (gives : List (List DumpItem)) → all_none slots ≡ true → AllZip (IsOut window true) slots gives → AllZip (IsOut (window + 1) false) slots gives
outs_again window [] [] none ends = tt
outs_again window [] (g ∷ gives) none ends = absurd ends
outs_again window (s ∷ slots) [] none ends = absurd ends
outs_again window (None ∷ slots) (g ∷ gives) none ends = ((ap (λ n. n + 1) ends.0.ends, tt), outs_again window slots gives none ends.1)
outs_again window (Some item ∷ slots) (g ∷ gives) none ends = absurd cc

made_again : (s t : MergeState) (feeds : List NodeFeed) (gave : List Transaction) (e : MergeEnd) → t.maker ≡ s.maker → t.start ≡ s.start → HasMade s feeds gave e → HasMade t feeds gave (merge_end_again e)
made_again s t feeds gave Open maker start h = made_as s t feeds gave Open maker start h
made_again s t feeds gave Whole maker start h = made_as s t feeds gave Open maker start h.0
made_again s t feeds gave (TooLarge number bytes) maker start h = made_as s t feeds gave (TooLarge number bytes) maker start h
made_again s t feeds gave Memory maker start h = made_as s t feeds gave Memory maker start h

pub next_merge : (old new : MergeState) → new.maker ≡ old.maker → new.start ≡ old.start → new.behind ≡ old.behind → new.took ≡ map (λ _. false) old.took → new.slots ≡ old.slots → new.closing ≡ false → new.end ≡ merge_end_again old.end → has_ended old ≡ true → NextMerge merge_account old new
next_merge old new maker start behind took slots closing ends ended = record {
  next = λ window takes gives did.
      let is = all_parts (all_true old.took) old.closing (all_none old.slots) ended in
      record {
        ins = subst (λ (l : List Bool). AllZip (EndsAs closes_node_window (window + 1)) l takes) (sym took) (ins_again window old.took takes is.0 did.ins);
        outs = subst (λ (c : Bool). AllZip (IsOut (window + 1) c) new.slots gives) (sym closing) (subst (λ (l : List (Option DumpItem)). AllZip (IsOut (window + 1) false) l gives) (sym slots)
            (outs_again window old.slots gives is.2 (subst (λ (c : Bool). AllZip (IsOut window c) old.slots gives) is.1 did.outs)));
        merged = λ kept_new.
            let m = did.merged (subst (λ (v : MergeStart). AreKept v takes) start kept_new) in
            record {
              gave = m.gave;
              made = subst (HasMade new (feeds_of takes) m.gave) (sym ends) (made_again old new (feeds_of takes) m.gave old.end maker start m.made);
              fits = subst (λ (k : MakerState). AllByRecursion (PrintFits k.rules) m.gave) (sym maker) m.fits;
              few = subst (λ (v : MergeStart). 0 < length m.gave → v.count + length m.gave ≤ 2 ^ 62) (sym start) m.few;
              behind = behind ∙ m.behind ∙ sym (same_behind old.maker.rules new.maker.rules old.maker.rotation new.maker.rotation old.start new.start m.gave (ap (λ (k : MakerState). k.rules) maker) (ap (λ (k : MakerState). k.rotation) maker) start);
              outs = subst (λ (l : List (Option DumpItem)). AllZip (λ (slot : Option DumpItem) (items : List DumpItem). units_among (items ++ items_in slot) ≡ units_behind new.maker.rules new.maker.rotation new.start.before m.gave) l gives) (sym slots)
                  (subst (λ (u : List OutputUnit). AllZip (λ (slot : Option DumpItem) (items : List DumpItem). units_among (items ++ items_in slot) ≡ u) old.slots gives)
                  (sym (same_units old new start (ap (λ (k : MakerState). k.rules) maker) (ap (λ (k : MakerState). k.rotation) maker) m.gave)) m.outs);
            };
      };
  width_in = ap length took ∙ length-map old.took (λ _. false);
  width_out = length-map new.slots (has_given new.closing) ∙ ap length slots ∙ sym (length-map old.slots (has_given old.closing));
}
