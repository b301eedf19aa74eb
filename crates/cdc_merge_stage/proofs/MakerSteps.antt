-- The steps of a maker, over plain states.
use Rattle.std.proofs.Common.{◌≡◌, ℕ, ◌+◌, ◌-◌, ◌^◌, ◌≤◌, ◌<◌, List, [], ◌∷◌, ◌++◌, length, length-append, sym, ap, refl, subst, ◌∙◌, arith}
use Rattle.std.specs.List.{AllByRecursion}
use Rattle.std.proofs.lemmas.List.{length-map}
use Rattle.cdc_base.specs.declared.key.Key.{Key}
use Rattle.cdc_base.specs.declared.rename.Rename.{Rename}
use Rattle.cdc_model.specs.declared.layout.Layout.{Layout}
use Rattle.cdc_model.specs.Records.{CommittedBranch, Transaction, OutputUnit}
use Rattle.cdc_model.specs.Print.{printed_length}
use Rattle.cdc_model.specs.Transaction.{transactions_of, settled_keys}
use Rattle.cdc_model.specs.SettledOrder.{IsFront}
use Rattle.cdc_model.specs.Feed.{NodeFeed, fed_branches, least_bound, merged_transactions}
use Rattle.cdc_model.specs.Unit.{unit_of}
use Rattle.cdc_merger.specs.Merging.{Merging, Merges, given_branch, feed_behind, last_key}
use Rattle.cdc_merge_stage.specs.declared.start.MergeStart.{MergeStart}
use Rattle.cdc_merge_stage.specs.declared.maker.Made.{Made}
use Rattle.cdc_merge_stage.specs.declared.maker.Made.TheVariants.{Unit as OneUnit, Nothing, TooLarge, Memory}
use Rattle.cdc_merge_stage.specs.Making.{MakerState, layout_behind, start_behind, unit_behind, units_behind, PrintFits, Makes, IsTooLarge, IsUnitMade, MakesNext}
use Rattle.cdc_merge_stage.proofs.Credits.{gave_all, one_fed_at}
use Rattle.cdc_merge_stage.proofs.GivenFront.{gave_front}

-- ---- layouts and units behind one transaction more

pub layout_more : (rules : List Rename) (rotation : ℕ) (before : Layout) (txns : List Transaction) (txn : Transaction)
    → layout_behind rules rotation before (txns ++ txn ∷ []) ≡ (unit_of rules rotation txn (layout_behind rules rotation before txns)).after
layout_more rules rotation before [] txn = refl
layout_more rules rotation before (first ∷ txns) txn = layout_more rules rotation (unit_of rules rotation first before).after txns txn

pub units_more : (rules : List Rename) (rotation : ℕ) (before : Layout) (txns : List Transaction) (txn : Transaction)
    → units_behind rules rotation before (txns ++ txn ∷ []) ≡ units_behind rules rotation before txns ++ unit_of rules rotation txn (layout_behind rules rotation before txns) ∷ []
units_more rules rotation before [] txn = refl
units_more rules rotation before (first ∷ txns) txn =
    ap (λ (list : List OutputUnit). unit_of rules rotation first before ∷ list) (units_more rules rotation (unit_of rules rotation first before).after txns txn)

-- ---- where merging begins behind one transaction more

last_more : (last : Key) (gave : List Transaction) (txn : Transaction) → last_key last (gave ++ txn ∷ []) ≡ txn.key
last_more last [] txn = refl
last_more last (first ∷ gave) txn = last_more first.key gave txn

abbrev first_number : ℕ → List Transaction → ℕ
first_number number [] = number
first_number number (txn ∷ txns) = txn.number

abbrev but_first : List Transaction → List Transaction
but_first [] = []
but_first (txn ∷ txns) = txns

-- transactions are numbered one after another
numbered : (branches : List CommittedBranch) (number : ℕ) (keys : List Key) (gave : List Transaction) (txn : Transaction) (rest : List Transaction) → transactions_of branches number keys ≡ (gave ++ txn ∷ []) ++ rest → txn.number ≡ number + length gave
numbered branches number [] [] txn rest is = absurd cc
numbered branches number [] (first ∷ gave) txn rest is = absurd cc
numbered branches number (key ∷ keys) [] txn rest is = let same : number ≡ txn.number = ap (first_number number) is in omega (arith, same)
numbered branches number (key ∷ keys) (first ∷ gave) txn rest is = let deeper = numbered branches (number + 1) keys gave txn rest (ap but_first is) in omega (arith, deeper)

pub next_number : (merger : Merging) (count : ℕ) (last : Key) (feeds : List NodeFeed) (gave : List Transaction) (txn : Transaction) → Merges merger count last feeds (gave ++ txn ∷ []) → txn.number ≡ count + length (gave ++ txn ∷ [])
next_number merger count last feeds gave txn merges =
    let front = gave_front merger count last feeds (gave ++ txn ∷ []) merges in
    let number = numbered (fed_branches feeds) (count + 1) (settled_keys (least_bound feeds) (fed_branches feeds)) gave txn front.rest front.is in
    let many = length-append gave (txn ∷ []) in
    omega (arith, number, many)

abbrev pub start_with : ℕ → Key → Layout → MergeStart
start_with count last before = record { count = count; last = last; before = before }

pub behind_more : (rules : List Rename) (rotation : ℕ) (start : MergeStart) (gave : List Transaction) (txn : Transaction) (unit : OutputUnit) (here : Layout) → unit ≡ unit_of rules rotation txn here → here ≡ layout_behind rules rotation start.before gave
    → txn.number ≡ start.count + length (gave ++ txn ∷ []) → unit_behind unit ≡ start_behind rules rotation start (gave ++ txn ∷ [])
behind_more rules rotation start gave txn unit here is at number =
    let now = (unit_of rules rotation txn here).after in
    ap unit_behind is ∙ ap (λ (n : ℕ). start_with n txn.key now) number
    ∙ ap (λ (k : Key). start_with (start.count + length (gave ++ txn ∷ [])) k now) (sym (last_more start.last gave txn))
    ∙ ap (λ (l : Layout). start_with (start.count + length (gave ++ txn ∷ [])) (last_key start.last (gave ++ txn ∷ [])) l)
    (ap (λ (l : Layout). (unit_of rules rotation txn l).after) at ∙ sym (layout_more rules rotation start.before gave txn))

-- the same rules, rotation size and start
pub same_behind : (rules others : List Rename) (rotation size : ℕ) (start begins : MergeStart) (gave : List Transaction) → others ≡ rules → size ≡ rotation → begins ≡ start → start_behind others size begins gave ≡ start_behind rules rotation start gave
same_behind rules others rotation size start begins gave same_rules same_size same_start =
    ap (λ (r : List Rename). start_behind r size begins gave) same_rules ∙ ap (λ (r : ℕ). start_behind rules r begins gave) same_size ∙ ap (λ (v : MergeStart). start_behind rules rotation v gave) same_start

pub all_more : {X : Type 0} (P : X → Type 0) (xs : List X) (x : X) → AllByRecursion P xs → P x → AllByRecursion P (xs ++ x ∷ [])
all_more P [] x all is = (is, tt)
all_more P (y ∷ xs) x (first, all) is = (first, all_more P xs x all is)

-- ---- the steps

-- one transaction more
pub makes_more : (old new : MakerState) (start : MergeStart) (feeds : List NodeFeed) (gave : List Transaction) (txn : Transaction) (unit : OutputUnit) → Makes old start feeds gave → Merges new.merger start.count start.last feeds (gave ++ txn ∷ [])
    → new.rules ≡ old.rules → new.rotation ≡ old.rotation → unit ≡ unit_of old.rules old.rotation txn old.before → new.before ≡ unit.after → new.credit + 1 ≡ old.credit → new.room ≡ old.room → PrintFits old.rules txn → Makes new start feeds (gave ++ txn ∷ [])
makes_more old new start feeds gave txn unit h merges rules rotation is before credit room fits = record {
  merges = merges;
  stands =
      before ∙ ap (λ (u : OutputUnit). u.after) is ∙ ap (λ (l : Layout). (unit_of old.rules old.rotation txn l).after) h.stands
      ∙ sym (layout_more old.rules old.rotation start.before gave txn)
      ∙ ap (λ (r : List Rename). layout_behind r old.rotation start.before (gave ++ txn ∷ [])) (sym rules)
      ∙ ap (λ (r : ℕ). layout_behind new.rules r start.before (gave ++ txn ∷ [])) (sym rotation);
  fits = subst (λ (r : List Rename). AllByRecursion (PrintFits r) (gave ++ txn ∷ [])) (sym rules) (all_more (PrintFits old.rules) gave txn h.fits fits);
  counted = let many = length-append gave (txn ∷ []) in let was = h.counted in omega (arith, many, was, credit);
  few = λ some. let few = h.few (omega (arith, some, room)) in omega (arith, few, room);
}

-- what was given is a front, with the transaction that is too large
pub too_large : (merger : Merging) (rules : List Rename) (start : MergeStart) (feeds : List NodeFeed) (gave : List Transaction) (txn : Transaction) (number bytes : ℕ) → Merges merger start.count start.last feeds (gave ++ txn ∷ [])
    → number ≡ txn.number → 2 ^ 28 < printed_length rules txn → (printed_length rules txn < 2 ^ 64 → bytes ≡ printed_length rules txn) → IsTooLarge rules start feeds gave number bytes
too_large merger rules start feeds gave txn number bytes merges is large length_is =
    record { txn = txn; front = gave_front merger start.count start.last feeds (gave ++ txn ∷ []) merges; is_number = is; large = large; is_length = length_is }

-- without it a front too
pub front_less : {X : Type 0} (xs whole : List X) (x : X) → IsFront (xs ++ x ∷ []) whole → IsFront xs whole
front_less {X = X} xs whole x front = record { rest = x ∷ front.rest; is = front.is ∙ shifted xs }
  where
    shifted : (list : List X) → (list ++ x ∷ []) ++ front.rest ≡ list ++ x ∷ front.rest
    shifted [] = refl
    shifted (y ∷ list) = ap (λ (l : List X). y ∷ l) (shifted list)

-- a branch more
pub counted_more : (credit later : ℕ) (merger : Merging) (start : MergeStart) (feeds : List NodeFeed) (gave : List Transaction) (node : ℕ) (branch : CommittedBranch) → Merges merger start.count start.last feeds gave → 1 ≤ node → node ≤ length merger.nodes
    → credit + length gave ≡ length (fed_branches feeds) → later ≡ credit + 1 → later + length gave ≡ length (fed_branches (given_branch node branch feeds))
counted_more credit later merger start feeds gave node branch merges first within was more =
    let many = length-map feeds (feed_behind (last_key start.last gave)) in
    let nodes = ap length merges.waits in
    let fed = one_fed_at branch (node - 1) feeds (omega (arith, first, within, many, nodes)) in
    omega (arith, was, fed, more)

-- what comes next, by what became of the next transaction
pub made_next : (old mid new : MakerState) (start : MergeStart) (feeds : List NodeFeed) (gave : List Transaction) (txn : Transaction) (made : Made) → Makes old start feeds gave
    → mid.rules ≡ old.rules → mid.rotation ≡ old.rotation → mid.before ≡ old.before → mid.credit ≡ old.credit → mid.room ≡ old.room → Merges mid.merger start.count start.last feeds (gave ++ txn ∷ [])
    → IsUnitMade mid new txn made → new.merger ≡ mid.merger → (new.rules ≡ mid.rules) × (new.rotation ≡ mid.rotation) × (new.room ≡ mid.room) → MakesNext old new start feeds gave made
made_next old mid new start feeds gave txn (OneUnit unit) h rules rotation before credit room merges is merger same =
    let unit_is : unit ≡ unit_of old.rules old.rotation txn old.before =
    is.0 ∙ ap (λ (r : List Rename). unit_of r mid.rotation txn mid.before) rules ∙ ap (λ (r : ℕ). unit_of old.rules r txn mid.before) rotation ∙ ap (λ (l : Layout). unit_of old.rules old.rotation txn l) before in (
      txn,
      unit_is,
      makes_more old new start feeds gave txn unit h (subst (λ (m : Merging). Merges m start.count start.last feeds (gave ++ txn ∷ [])) (sym merger) merges)
          (same.0 ∙ rules) (same.1 ∙ rotation) unit_is is.1 (is.2 ∙ credit) (same.2 ∙ room) (subst (λ (r : List Rename). PrintFits r txn) rules is.3),
    )
made_next old mid new start feeds gave txn Nothing h rules rotation before credit room merges is merger same = absurd is
made_next old mid new start feeds gave txn (TooLarge number bytes) h rules rotation before credit room merges is merger same =
    subst (λ (r : List Rename). IsTooLarge r start feeds gave number bytes) rules (too_large mid.merger mid.rules start feeds gave txn number bytes merges is.0 is.1 is.2)
made_next old mid new start feeds gave txn Memory h rules rotation before credit room merges is merger same =
    front_less gave (merged_transactions start.count feeds) txn (gave_front mid.merger start.count start.last feeds (gave ++ txn ∷ []) merges)

-- nothing more
pub made_nothing : (old : MakerState) (start : MergeStart) (feeds : List NodeFeed) (gave : List Transaction) → Makes old start feeds gave → old.credit ≡ 0 → gave ≡ merged_transactions start.count feeds
made_nothing old start feeds gave h none =
    let was = h.counted in
    gave_all old.merger start.count start.last feeds gave h.merges (omega (arith, was, none))
