-- What nodes gave, merged and printed: one branch, bound or transaction more.
use Rattle.std.proofs.Common.{◌≡◌, ◌≤◌, ◌<◌, ℕ, ◌+◌, ◌-◌, ◌^◌, Bool, true, false, List, [], ◌∷◌, ◌++◌, length, Option, Some, None, ◌⊎◌, inl, inr, ap, sym, subst, ◌∙◌, arith}
use Rattle.std.proofs.lemmas.List.{length-map}
use Rattle.cdc_base.specs.declared.key.Key.{Key}
use Rattle.cdc_base.specs.Key.{first_key}
use Rattle.cdc_model.specs.Records.{CommittedBranch, Transaction}
use Rattle.cdc_model.specs.Feed.{NodeFeed, least_bound, merged_transactions}
use Rattle.cdc_reader.specs.declared.step.Step.{Step}
use Rattle.cdc_reader.specs.declared.step.Step.TheVariants.{Branch, Bound, Read as BytesRead, End}
use Rattle.cdc_reader.specs.Standing.{feed_by}
use Rattle.cdc_merger.specs.Feeding.{changed_at, with_bound}
use Rattle.cdc_merger.specs.Merging.{Merging, Merges, IsGivenInTime, GivesNext, feed_behind, last_key, given_branch, told_bound}
use Rattle.cdc_print.specs.declared.printing.Printing.{Printing}
use Rattle.cdc_print.specs.Printed.{IsPrinted}
use Rattle.cdc_print.specs.Reading.{IsMerged, IsMergedAll}
use Rattle.cdc_print.specs.Running.{CanTake}
use Rattle.cdc_print.proofs.Feeding.{given_in_time, least_rises, changed_to_itself}

-- where printing doesn't go on, nothing is said
pub not_printed : (prints : Bool) (merger : Merging) (printing : Printing) (feeds : List NodeFeed) → prints ≡ false → IsMerged prints merger printing feeds
not_printed prints merger printing feeds is = λ goes. absurd (let e : false ≡ true = sym is ∙ goes in cc)

pub none_printed : (prints : Bool) (merger : Merging) (printing : Printing) (feeds : List NodeFeed) → prints ≡ false → IsMergedAll prints merger printing feeds
none_printed prints merger printing feeds is = λ goes. absurd (let e : false ≡ true = sym is ∙ goes in cc)

-- as many feeds as nodes
many_feeds : (merger : Merging) (feeds : List NodeFeed) (gave : List Transaction) → Merges merger 0 first_key feeds gave → length feeds ≡ length merger.nodes
many_feeds merger feeds gave m = sym (length-map feeds (feed_behind (last_key first_key gave))) ∙ ap length (sym m.waits)

-- what a merger promises of a branch that it took, of a bound, and of the next transaction
abbrev pub TakesBranch : Merging → Merging → ℕ → CommittedBranch → Type 0
TakesBranch old new node branch = (count : ℕ) (last : Key) (feeds : List NodeFeed) (gave : List Transaction) → Merges old count last feeds gave
    → IsGivenInTime last node branch feeds → Merges new count last (given_branch node branch feeds) gave

abbrev pub TakesBound : Merging → Merging → ℕ → ℕ → Type 0
TakesBound old new node bound = (count : ℕ) (last : Key) (feeds : List NodeFeed) (gave : List Transaction) → Merges old count last feeds gave
    → least_bound feeds ≤ least_bound (told_bound node bound feeds) → Merges new count last (told_bound node bound feeds) gave

abbrev pub Gives : Merging → Merging → Option Transaction → Type 0
Gives old new answer = (count : ℕ) (last : Key) (feeds : List NodeFeed) (gave : List Transaction) → Merges old count last feeds gave
    → count + length gave < 2 ^ 64 - 1 → GivesNext old new count last feeds gave answer

pub merged_given : (prints : Bool) (merger new : Merging) (printing : Printing) (node : ℕ) (branch : CommittedBranch) (feeds : List NodeFeed) → 1 ≤ node → node ≤ length merger.nodes
    → TakesBranch merger new node branch → IsMerged prints merger printing feeds → CanTake node (Branch branch) feeds
    → IsMerged prints new printing (changed_at (feed_by (Branch branch)) (node - 1) feeds)
merged_given prints merger new printing node branch feeds first last takes merged can goes =
    let (gave, merges, printed) = merged goes in
    let within : node - 1 < length feeds = omega (arith, first, last, many_feeds merger feeds gave merges) in
    let same : node - 1 + 1 ≡ node = omega (arith, first) in (
      gave,
      takes 0 first_key feeds gave merges
          (subst (λ (n : ℕ). IsGivenInTime first_key n branch feeds) same (given_in_time first_key (node - 1) branch feeds merges.ordered within can.ordered can.grows)),
      printed,
    )

pub merged_told : (prints : Bool) (merger new : Merging) (printing : Printing) (node bound : ℕ) (feeds : List NodeFeed) → TakesBound merger new node bound
    → IsMerged prints merger printing feeds → CanTake node (Bound bound) feeds → IsMerged prints new printing (changed_at (feed_by (Bound bound)) (node - 1) feeds)
merged_told prints merger new printing node bound feeds takes merged can goes =
    let (gave, merges, printed) = merged goes in
    (gave, takes 0 first_key feeds gave merges (least_rises (with_bound bound) (node - 1) feeds can.grows.bounded), printed)

-- nothing was given
pub merged_same : (prints : Bool) (merger : Merging) (printing : Printing) (node : ℕ) (step : Step) (feeds : List NodeFeed) → ((count : ℕ) × (step ≡ BytesRead count)) ⊎ (step ≡ End)
    → IsMerged prints merger printing feeds → IsMerged prints merger printing (changed_at (feed_by step) (node - 1) feeds)
merged_same prints merger printing node step feeds (inl (count, is)) merged =
    subst (λ (s : Step). IsMerged prints merger printing (changed_at (feed_by s) (node - 1) feeds)) (sym is)
    (subst (IsMerged prints merger printing) (sym (changed_to_itself (node - 1) feeds)) merged)
merged_same prints merger printing node step feeds (inr is) merged =
    subst (λ (s : Step). IsMerged prints merger printing (changed_at (feed_by s) (node - 1) feeds)) (sym is)
    (subst (IsMerged prints merger printing) (sym (changed_to_itself (node - 1) feeds)) merged)

few_so_far : (printing : Printing) (gave : List Transaction) → IsPrinted printing gave → 0 + length gave < 2 ^ 64 - 1
few_so_far printing gave printed = omega (arith, printed.counted, printed.few)

-- a transaction more
pub merged_next : (before prints : Bool) (merger new : Merging) (printing later : Printing) (txn : Transaction) (feeds : List NodeFeed) → before ≡ true → Gives merger new (Some txn)
    → ((txns : List Transaction) → IsPrinted printing txns → prints ≡ true → IsPrinted later (txns ++ txn ∷ []))
    → IsMerged before merger printing feeds → IsMerged prints new later feeds
merged_next before prints merger new printing later txn feeds was gives prints_it merged goes =
    let (gave, merges, printed) = merged was in
    (gave ++ txn ∷ [], gives 0 first_key feeds gave merges (few_so_far printing gave printed), prints_it gave printed goes)

-- none is left
pub merged_all : (before : Bool) (merger new : Merging) (printing : Printing) (feeds : List NodeFeed) → before ≡ true → Gives merger new None
    → IsMerged before merger printing feeds → IsMergedAll before new printing feeds
merged_all before merger new printing feeds was gives merged goes =
    let (gave, merges, printed) = merged was in
    let none = gives 0 first_key feeds gave merges (few_so_far printing gave printed) in (
      subst (λ (m : Merging). Merges m 0 first_key feeds (merged_transactions 0 feeds)) (sym none.1)
          (subst (Merges merger 0 first_key feeds) none.0 merges),
      subst (IsPrinted printing) none.0 printed,
    )

-- what is merged all is merged
pub merged_still : (prints : Bool) (merger : Merging) (printing : Printing) (feeds : List NodeFeed) → IsMergedAll prints merger printing feeds → IsMerged prints merger printing feeds
merged_still prints merger printing feeds all goes = let (merges, printed) = all goes in (merged_transactions 0 feeds, merges, printed)

-- the same promise of what was answered, and of a merger that is left as it is
pub gives_so : (old new later : Merging) (answer : Option Transaction) (txn : Transaction) → answer ≡ Some txn → later ≡ new → Gives old new answer → Gives old later (Some txn)
gives_so old new later answer txn is same gives =
    subst (λ (m : Merging). Gives old m (Some txn)) (sym same) (subst (Gives old new) is gives)
