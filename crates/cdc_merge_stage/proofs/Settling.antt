-- What was given, as settled transactions.
use Rattle.std.proofs.Common.{◌≡◌, ℕ, ◌^◌, ◌<◌, true, false, List, [], ◌∷◌, ◌++◌, None, find, sym, ap, refl, subst, ◌∙◌, append-nil}
use Rattle.std.specs.List.{AllByRecursion, before_first}
use Rattle.std.proofs.lemmas.Bool.{le-ltb, lt-ltb}
use Rattle.cdc_base.specs.declared.rename.Rename.{Rename}
use Rattle.cdc_model.specs.declared.node_log.NodeLog.{NodeLog}
use Rattle.cdc_model.specs.Records.{Transaction}
use Rattle.cdc_model.specs.Print.{printed_length}
use Rattle.cdc_model.specs.Transaction.{is_oversized, ordered_transactions}
use Rattle.cdc_model.specs.SettledOrder.{IsFront}
use Rattle.cdc_model.specs.Feed.{NodeFeed, AreFeedsOf, AreToldOf, MergesTo, merged_transactions}
use Rattle.cdc_model.proofs.FeedLaws.{feeds_merge_to_order}
use Rattle.cdc_model.proofs.Fronts.{front_on, front_same}
use Rattle.cdc_model.proofs.OrderCut.{first_passes, first_fails, found_at, found_later}
use Rattle.cdc_item.specs.declared.dump_item.DumpItem.{DumpItem}
use Rattle.cdc_merge_stage.specs.declared.merge_end.MergeEnd.{MergeEnd}
use Rattle.cdc_merge_stage.specs.declared.merge_end.MergeEnd.TheVariants.{Open, Whole, TooLarge, Memory}
use Rattle.cdc_merge_stage.specs.Making.{PrintFits, IsTooLarge}
use Rattle.cdc_merge_stage.specs.Merged.{MergeState, HasMade, HasGivenUnits}
use Rattle.cdc_merge_stage.specs.Settled.{settled_of_logs, oversized_of_logs, StopsAtOversized, GivesSettled, UnitsAreSettled}
use Rattle.cdc_merge_stage.proofs.GivenFront.{gave_front}
use Rattle.cdc_merge_stage.proofs.MakerSteps.{front_less}

fits_is : (rules : List Rename) (txn : Transaction) → PrintFits rules txn → is_oversized rules txn ≡ false
fits_is rules txn fits = le-ltb (2 ^ 28) (printed_length rules txn) fits

large_is : (rules : List Rename) (txn : Transaction) → 2 ^ 28 < printed_length rules txn → is_oversized rules txn ≡ true
large_is rules txn large = lt-ltb (2 ^ 28) (printed_length rules txn) large

-- behind transactions that fit
settled_on : (rules : List Rename) (gave rest : List Transaction) → AllByRecursion (PrintFits rules) gave → before_first (is_oversized rules) (gave ++ rest) ≡ gave ++ before_first (is_oversized rules) rest
settled_on rules [] rest fits = refl
settled_on rules (txn ∷ gave) rest (first, fits) =
    first_fails (is_oversized rules) txn (gave ++ rest) (fits_is rules txn first) ∙ ap (λ (l : List Transaction). txn ∷ l) (settled_on rules gave rest fits)

found_on : (rules : List Rename) (gave rest : List Transaction) → AllByRecursion (PrintFits rules) gave → find (is_oversized rules) (gave ++ rest) ≡ find (is_oversized rules) rest
found_on rules [] rest fits = refl
found_on rules (txn ∷ gave) rest (first, fits) = found_later (is_oversized rules) txn (gave ++ rest) (fits_is rules txn first) ∙ found_on rules gave rest fits

-- what was given is a front of what the feeds merge to, however the stage ended
pub made_front : (s : MergeState) (feeds : List NodeFeed) (gave : List Transaction) (e : MergeEnd) → HasMade s feeds gave e → IsFront gave (merged_transactions s.start.count feeds)
made_front s feeds gave Open made = gave_front s.maker.merger s.start.count s.start.last feeds gave made.merges
made_front s feeds gave Whole made = front_same gave (merged_transactions s.start.count feeds) made.1
made_front s feeds gave (TooLarge number bytes) made = front_less gave (merged_transactions s.start.count feeds) made.txn made.front
made_front s feeds gave Memory made = made

module _ (s : MergeState) (logs : List NodeLog) (feeds : List NodeFeed) (gives : List (List DumpItem)) (of_logs : AreFeedsOf s.start.last logs feeds) (has : HasGivenUnits s feeds gives) where
  abbrev ordered : List Transaction
  ordered = ordered_transactions s.start.count s.start.last logs

  merges : MergesTo s.start.count s.start.last logs feeds
  merges = feeds_merge_to_order s.start.count s.start.last logs feeds of_logs

  -- where the order goes on so behind what was given
  settled_is : (rest : List Transaction) → ordered ≡ has.gave ++ rest → settled_of_logs s logs ≡ has.gave ++ before_first (is_oversized s.maker.rules) rest
  settled_is rest is = ap (before_first (is_oversized s.maker.rules)) is ∙ settled_on s.maker.rules has.gave rest has.fits

  oversized_is : (rest : List Transaction) → ordered ≡ has.gave ++ rest → oversized_of_logs s logs ≡ find (is_oversized s.maker.rules) rest
  oversized_is rest is = ap (find (is_oversized s.maker.rules)) is ∙ found_on s.maker.rules has.gave rest has.fits

  is_first : IsFront has.gave (settled_of_logs s logs)
  is_first =
      let front = front_on has.gave (merged_transactions s.start.count feeds) ordered (made_front s feeds has.gave s.end has.made) merges.front in
      record { rest = before_first (is_oversized s.maker.rules) front.rest; is = settled_is front.rest front.is }

  is_whole : s.end ≡ Whole → AreToldOf logs feeds → (has.gave ≡ settled_of_logs s logs) × (oversized_of_logs s logs ≡ None)
  is_whole ended told =
      let made = subst (HasMade s feeds has.gave) ended has.made in
      let all : ordered ≡ has.gave ++ [] = sym (merges.whole told) ∙ sym made.1 ∙ sym (append-nil has.gave) in
      (sym (append-nil has.gave) ∙ sym (settled_is [] all), oversized_is [] all)

  is_stopped : (number bytes : ℕ) → s.end ≡ TooLarge number bytes → StopsAtOversized s logs has.gave number bytes
  is_stopped number bytes ended =
      let made : IsTooLarge s.maker.rules s.start feeds has.gave number bytes = subst (HasMade s feeds has.gave) ended has.made in
      let front = front_on (has.gave ++ made.txn ∷ []) (merged_transactions s.start.count feeds) ordered made.front merges.front in
      let on : ordered ≡ has.gave ++ made.txn ∷ front.rest = front.is ∙ shifted has.gave made.txn front.rest in
      let large = large_is s.maker.rules made.txn made.large in
      record {
        all = sym (append-nil has.gave) ∙ ap (λ (l : List Transaction). has.gave ++ l) (sym (first_passes (is_oversized s.maker.rules) made.txn front.rest large)) ∙ sym (settled_is (made.txn ∷ front.rest) on);
        txn = made.txn;
        is_first = oversized_is (made.txn ∷ front.rest) on ∙ found_at (is_oversized s.maker.rules) made.txn front.rest large;
        is_number = made.is_number;
        is_length = made.is_length;
      }
    where
      shifted : (list : List Transaction) (txn : Transaction) (rest : List Transaction) → (list ++ txn ∷ []) ++ rest ≡ list ++ txn ∷ rest
      shifted [] txn rest = refl
      shifted (x ∷ list) txn rest = ap (λ (l : List Transaction). x ∷ l) (shifted list txn rest)

  pub gives_settled : GivesSettled s logs feeds has.gave
  gives_settled = record { first = is_first; whole = is_whole; too_large = is_stopped }

pub units_are_settled : UnitsAreSettled
units_are_settled s logs feeds gives of_logs has = gives_settled s logs feeds gives of_logs has
