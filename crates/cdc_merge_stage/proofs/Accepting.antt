-- What an item of a node adds to what a stage took.
use Rattle.std.proofs.Common.{◌≡◌, ◌⊎◌, inl, inr, ℕ, ◌+◌, ◌-◌, ◌<◌, ◌≤◌, ◌^◌, Bool, true, false, List, [], ◌∷◌, ◌++◌, length, get_or, set, refl, sym, ◌∙◌, ap, subst, arith, Option, if◌then◌else◌}
use Rattle.std.specs.List.{AllZip, AllByRecursion}
use Rattle.cdc_base.specs.declared.rename.Rename.{Rename}
use Rattle.cdc_model.specs.Records.{Transaction, OutputUnit}
use Rattle.cdc_model.specs.SettledOrder.{IsFront}
use Rattle.cdc_model.specs.Feed.{NodeFeed, merged_transactions}
use Rattle.cdc_turns.specs.Ends.{EndsAs}
use Rattle.cdc_turns.specs.Joined.{joined, nothing_for}
use Rattle.cdc_turns.proofs.Counting.{stays_open, closes_now}
use Rattle.cdc_turns.proofs.Lanewise.{joined_nothing, joined_one}
use Rattle.cdc_turns.proofs.Pairwise.{zip_at, zip_long, zip_set}
use Rattle.cdc_item.specs.declared.node_item.NodeItem.{NodeItem}
use Rattle.cdc_item.specs.declared.node_item.NodeItem.TheVariants.{Branch, Bound, End as NodeEnd}
use Rattle.cdc_item.specs.declared.dump_item.DumpItem.{DumpItem}
use Rattle.cdc_item.specs.Item.{closes_node_window, units_among}
use Rattle.cdc_merge_stage.specs.declared.start.MergeStart.{MergeStart}
use Rattle.cdc_merge_stage.specs.declared.merge_end.MergeEnd.{MergeEnd}
use Rattle.cdc_merge_stage.specs.declared.merge_end.MergeEnd.TheVariants.{Open, Whole, TooLarge, Memory}
use Rattle.cdc_merge_stage.specs.Making.{MakerState, Makes, IsTooLarge, PrintFits, units_behind}
use Rattle.cdc_merge_stage.specs.Merged.{MergeState, MergeDid, HasGivenUnits, HasMade, AreKept, feeds_of, fed, items_in, IsOut}
use Rattle.cdc_model.proofs.FeedLaws.{later_feeds_go_on}
use Rattle.cdc_model.proofs.Fronts.{front_on}
use Rattle.cdc_merger.specs.Feeding.{changed_at, with_branch, with_bound}
use Rattle.cdc_merge_stage.specs.Passing.{HasAccepted, MakerTakes}
use Rattle.cdc_merge_stage.proofs.GivenFront.{gave_front}
use Rattle.cdc_merge_stage.proofs.MakerSteps.{same_behind}
use Rattle.cdc_merge_stage.proofs.Places.{zip_right}
use Rattle.cdc_merge_stage.proofs.Feeding.{more_at, feeds_changed, same_changed, kept_so_far, is_last, is_higher, given_in_time, all_grow}

-- a stage with the same maker and start has made the same
pub made_as : (s t : MergeState) (feeds : List NodeFeed) (gave : List Transaction) (e : MergeEnd) → t.maker ≡ s.maker → t.start ≡ s.start → HasMade s feeds gave e → HasMade t feeds gave e
made_as s t feeds gave Open maker start h = subst (λ (v : MergeStart). Makes t.maker v feeds gave) (sym start) (subst (λ (m : MakerState). Makes m s.start feeds gave) (sym maker) h)
made_as s t feeds gave Whole maker start h = (
  subst (λ (v : MergeStart). Makes t.maker v feeds gave) (sym start) (subst (λ (m : MakerState). Makes m s.start feeds gave) (sym maker) h.0),
  h.1 ∙ ap (λ (v : MergeStart). merged_transactions v.count feeds) (sym start),
)
made_as s t feeds gave (TooLarge number bytes) maker start h =
    subst (λ (v : MergeStart). IsTooLarge t.maker.rules v feeds gave number bytes) (sym start) (subst (λ (m : MakerState). IsTooLarge m.rules s.start feeds gave number bytes) (sym maker) h)
made_as s t feeds gave Memory maker start h = subst (λ (v : MergeStart). IsFront gave (merged_transactions v.count feeds)) (sym start) h

-- the Ends from the nodes
ins_more : (window : ℕ) (took : List Bool) (takes : List (List NodeItem)) (node : ℕ) (item : NodeItem) → node < length took → get_or took node true ≡ false → AllZip (EndsAs closes_node_window window) took takes
    → AllZip (EndsAs closes_node_window window) (if closes_node_window item then set took node true else took) (more_at takes node item)
ins_more window took takes node item within going ends = by (closes_node_window item) refl
  where
    had : List NodeItem
    had = get_or takes node []

    open_still : EndsAs closes_node_window window false had
    open_still = subst (λ (b : Bool). EndsAs closes_node_window window b had) going (zip_at (EndsAs closes_node_window window) took takes node true [] ends within)

    by : (is : Bool) → closes_node_window item ≡ is → AllZip (EndsAs closes_node_window window) (if is then set took node true else took) (more_at takes node item)
    by true is = zip_set (EndsAs closes_node_window window) took takes node true (had ++ item ∷ []) ends (closes_now closes_node_window window had item is open_still)
    by false is = zip_right (EndsAs closes_node_window window) took takes node true (had ++ item ∷ []) ends
        (subst (λ (b : Bool). EndsAs closes_node_window window b (had ++ item ∷ [])) (sym going) (stays_open closes_node_window window had item is open_still))

module _ (old new : MergeState) (node : ℕ) (item : NodeItem) (h : HasAccepted old node item new) (within : node < length old.took) (going : get_or old.took node true ≡ false) (not_whole : old.end ≡ Whole → ⊥) where
  made_more : (takes : List (List NodeItem)) (gave : List Transaction) → node < length takes → AreKept old.start (more_at takes node item) → HasMade old (feeds_of takes) gave old.end → HasMade new (feeds_of (more_at takes node item)) gave new.end
  made_more takes gave inside kept made = subst (λ (feeds : List NodeFeed). HasMade new feeds gave new.end) (sym (feeds_changed takes node item)) (by_end old.end refl h.ends)
    where
      news : List NodeFeed
      news = changed_at (λ feed. fed feed item) node (feeds_of takes)

      later : (count : ℕ) → IsFront (merged_transactions count (feeds_of takes)) (merged_transactions count news)
      later count = later_feeds_go_on count (feeds_of takes) news (all_grow takes node item (is_last old.start takes node item inside kept))

      takes_it : (i : NodeItem) → item ≡ i → MakerTakes old.maker new.maker old.start (feeds_of takes) gave node i → Makes new.maker old.start (changed_at (λ feed. fed feed i) node (feeds_of takes)) gave
      takes_it (Branch branch) is does =
          subst (λ (n : ℕ). Makes new.maker old.start (changed_at (with_branch branch) n (feeds_of takes)) gave) (let e : node + 1 - 1 ≡ node = omega arith in e)
          (does (given_in_time old.start branch node takes inside (subst (λ (i : NodeItem). AreKept old.start (more_at takes node i)) is kept)))
      takes_it (Bound bound) is does =
          subst (λ (n : ℕ). Makes new.maker old.start (changed_at (with_bound bound) n (feeds_of takes)) gave) (let e : node + 1 - 1 ≡ node = omega arith in e)
          (does (is_higher bound node takes inside (is_last old.start takes node (Bound bound) inside (subst (λ (i : NodeItem). AreKept old.start (more_at takes node i)) is kept))))
      takes_it NodeEnd is does = subst (λ (feeds : List NodeFeed). Makes new.maker old.start feeds gave) (sym (same_changed node (feeds_of takes))) does

      here : (e : MergeEnd) → old.end ≡ e → HasMade old (feeds_of takes) gave e
      here e is = subst (HasMade old (feeds_of takes) gave) is made

      by_end : (e : MergeEnd) → old.end ≡ e → (new.end ≡ old.end) ⊎ ((old.end ≡ Open) × (new.end ≡ Memory)) → HasMade new news gave new.end
      by_end e is (inr (was, memory)) =
          subst (HasMade new news gave) (sym memory)
          (subst (λ (v : MergeStart). IsFront gave (merged_transactions v.count news)) (sym h.start)
          (front_on gave (merged_transactions old.start.count (feeds_of takes)) (merged_transactions old.start.count news) (gave_front old.maker.merger old.start.count old.start.last (feeds_of takes) gave (here Open was).merges) (later old.start.count)))
      by_end Open is (inl same) =
          subst (HasMade new news gave) (sym (same ∙ is))
          (subst (λ (v : MergeStart). Makes new.maker v news gave) (sym h.start) (takes_it item refl (h.makes is (same ∙ is) old.start (feeds_of takes) gave (here Open is))))
      by_end Whole is (inl same) = absurd (not_whole is)
      by_end (TooLarge number bytes) is (inl same) =
          let was = here (TooLarge number bytes) is in
          subst (HasMade new news gave) (sym (same ∙ is))
          (subst (λ (v : MergeStart). IsTooLarge new.maker.rules v news gave number bytes) (sym h.start)
          (subst (λ (r : List Rename). IsTooLarge r old.start news gave number bytes) (sym h.rules)
          (record { txn = was.txn; front = front_on (gave ++ was.txn ∷ []) (merged_transactions old.start.count (feeds_of takes)) (merged_transactions old.start.count news) was.front (later old.start.count); is_number = was.is_number; large = was.large; is_length = was.is_length })))
      by_end Memory is (inl same) =
          subst (HasMade new news gave) (sym (same ∙ is))
          (subst (λ (v : MergeStart). IsFront gave (merged_transactions v.count news)) (sym h.start)
          (front_on gave (merged_transactions old.start.count (feeds_of takes)) (merged_transactions old.start.count news) (here Memory is) (later old.start.count)))

  pub merged_more : (takes : List (List NodeItem)) (gives : List (List DumpItem)) → node < length takes → AreKept old.start (more_at takes node item) → HasGivenUnits old (feeds_of takes) gives → HasGivenUnits new (feeds_of (more_at takes node item)) gives
  merged_more takes gives inside kept m = record {
    gave = m.gave;
    made = made_more takes m.gave inside kept m.made;
    fits = subst (λ (r : List Rename). AllByRecursion (PrintFits r) m.gave) (sym h.rules) m.fits;
    few = subst (λ (v : MergeStart). 0 < length m.gave → v.count + length m.gave ≤ 2 ^ 62) (sym h.start) m.few;
    behind = h.behind ∙ m.behind ∙ sym (same_behind old.maker.rules new.maker.rules old.maker.rotation new.maker.rotation old.start new.start m.gave h.rules h.rotation h.start);
    outs =
        let units : units_behind new.maker.rules new.maker.rotation new.start.before m.gave ≡ units_behind old.maker.rules old.maker.rotation old.start.before m.gave =
        ap (λ (r : List Rename). units_behind r new.maker.rotation new.start.before m.gave) h.rules ∙ ap (λ (r : ℕ). units_behind old.maker.rules r new.start.before m.gave) h.rotation
        ∙ ap (λ (v : MergeStart). units_behind old.maker.rules old.maker.rotation v.before m.gave) h.start in
        subst (λ (l : List (Option DumpItem)). AllZip (λ (slot : Option DumpItem) (items : List DumpItem). units_among (items ++ items_in slot) ≡ units_behind new.maker.rules new.maker.rotation new.start.before m.gave) l gives) (sym h.slots)
        (subst (λ (u : List OutputUnit). AllZip (λ (slot : Option DumpItem) (items : List DumpItem). units_among (items ++ items_in slot) ≡ u) old.slots gives) (sym units) m.outs);
  }

  pub did_more : {I O : Type 0} (ins : List I) (outs : List O) → length ins ≡ length old.took → length outs ≡ length old.slots → (window : ℕ) (takes : List (List NodeItem)) (gives : List (List DumpItem)) → MergeDid window old takes gives
      → MergeDid window new (joined takes (set (nothing_for ins) node (item ∷ []))) (joined gives (nothing_for outs))
  did_more ins outs many_ins many_outs window takes gives did =
      let long_in = zip_long (EndsAs closes_node_window window) old.took takes did.ins in
      let long_out = zip_long (IsOut window old.closing) old.slots gives did.outs in
      subst (λ (l : List (List NodeItem)). MergeDid window new l (joined gives (nothing_for outs))) (joined_one takes ins node (item ∷ []) (many_ins ∙ long_in))
      (subst (λ (l : List (List DumpItem)). MergeDid window new (more_at takes node item) l) (sym (joined_nothing gives outs (many_outs ∙ long_out)))
      (record {
        ins = subst (λ (l : List Bool). AllZip (EndsAs closes_node_window window) l (more_at takes node item)) (sym h.took) (ins_more window old.took takes node item within going did.ins);
        outs = subst (λ (c : Bool). AllZip (IsOut window c) new.slots gives) (sym h.closing) (subst (λ (l : List (Option DumpItem)). AllZip (IsOut window old.closing) l gives) (sym h.slots) did.outs);
        merged = λ kept_new.
            let inside : node < length takes = omega (arith, within, long_in) in
            let kept = subst (λ (v : MergeStart). AreKept v (more_at takes node item)) h.start kept_new in
            merged_more takes gives inside kept (did.merged (kept_so_far old.start takes node item inside kept));
      }))
