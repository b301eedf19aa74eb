-- The readers of all nodes: one of them, and one that has gone on.
use Rattle.std.proofs.Common.{◌≡◌, ◌≤◌, ◌<◌, ℕ, zero, suc, ◌+◌, Bool, List, [], ◌∷◌, ◌++◌, length, length-append, map, reverse, get_or, ap, sym, refl, subst, ◌∙◌, arith, ⊎_elim}
use Rattle.std.proofs.Math.ListN.{set}
use Rattle.std.proofs.Math.Seq.{map-set_same}
use Rattle.std.proofs.lemmas.Bool.{cases_eq}
use Rattle.std.proofs.lemmas.List.{map-set, get_or-map, get_or-set_same, get_or-set_other, length-map}
use Rattle.cdc_outside.specs.Count.{Rose}
use Rattle.cdc_model.specs.Feed.{NodeFeed}
use Rattle.cdc_model.specs.NodeReading.{no_feed, NodeSettledInOrder}
use Rattle.cdc_model.specs.Restart.{start_at, first_point}
use Rattle.cdc_base.specs.Key.{first_key}
use Rattle.cdc_sorter.specs.Sorting.{low_of, settled_behind}
use Rattle.cdc_merger.specs.Feeding.{changed_at}
use Rattle.cdc_merger.specs.Rounds.{node_at}
use Rattle.cdc_merger.specs.Merging.{IsOrderedFeed, no_feeds}
use Rattle.cdc_print.specs.declared.node.NodeReader.{NodeReader}
use Rattle.cdc_print.specs.Outcome.{NoCountFell}
use Rattle.cdc_print.specs.Reading.{whole_reading, NodeReads, AreReading, AreNew}
use Rattle.cdc_print.proofs.Feeding.{ordered_feed}

-- ---- sources and their counts

-- a source that was read holds what it held
pub held_kept : {S : Type 0} (held : S → List (List ℕ)) (items : List S) (place : ℕ) (old new : S) → old ≡ get_or items place old → held new ≡ held old
    → map held (set items place new) ≡ map held items
held_kept held items place old new value same = map-set_same held items place new old (same ∙ ap held value)

count_at : {S : Type 0} (faults : S → ℕ) (items : List S) (place : ℕ) (old : S) → place < length items → old ≡ get_or items place old
    → get_or (map faults items) place 0 ≡ faults old
count_at faults items place old within value = get_or-map faults items place old 0 within ∙ ap faults (sym value)

new_count_at : {S : Type 0} (faults : S → ℕ) (items : List S) (place : ℕ) (new : S) → place < length items
    → get_or (map faults (set items place new)) place 0 ≡ faults new
new_count_at faults items place new within =
    let inside : place < length (map faults items) = rw length-map within in
    rw map-set (get_or-set_same (map faults items) place (faults new) 0 inside)

-- no count falls where one node's doesn't
pub later_kept : {S : Type 0} (faults : S → ℕ) (items : List S) (place : ℕ) (old new : S) → place < length items → old ≡ get_or items place old
    → faults old ≤ faults new → NoCountFell (map faults items) (map faults (set items place new))
later_kept faults items place old new within value later k =
    ⊎_elim
    (λ (same : k ≡ place). subst (λ (n : ℕ). get_or (map faults items) n 0 ≤ get_or (map faults (set items place new)) n 0) (sym same)
    (omega (arith, count_at faults items place old within value, new_count_at faults items place new within, later)))
    (λ (other : k ≡ place → ⊥). let same : get_or (map faults items) k 0 ≤ get_or (map faults items) k 0 = omega arith in rw (map-set, get_or-set_other) same)
    (cases_eq k place)

pub none_fell : (counts : List ℕ) → NoCountFell counts counts
none_fell counts place = omega arith

pub fell_through : (first mid last : List ℕ) → NoCountFell first mid → NoCountFell mid last → NoCountFell first last
fell_through first mid last a b place = omega (arith, a place, b place)

-- ---- a node among all

-- its reader has given the feed of its place
pub reads_at : {S : Type 0} (told : Bool) (held : S → List (List ℕ)) (failed : S → ℕ) (node : ℕ) (befores : List ℕ) (sources : List S) (states : List NodeReader) (feeds : List NodeFeed)
    (index : ℕ) (source : S) (state : NodeReader) → AreReading told held failed node befores sources states feeds → index < length sources
    → source ≡ get_or sources index source → state ≡ get_or states index state
    → NodeReads told (held source) (get_or befores index 0) (failed source) (node + index) state (node_at feeds index)
reads_at told held failed node (before ∷ befores) (first ∷ sources) (one ∷ states) (feed ∷ feeds) zero source state are h is same =
    subst (λ (s : NodeReader). NodeReads told (held source) before (failed source) (node + 0) s feed) (sym same)
    (subst (λ (s : _). NodeReads told (held s) before (failed s) (node + 0) one feed) (sym is)
    (subst (λ (n : ℕ). NodeReads told (held first) before (failed first) n one feed) (let z : node ≡ node + 0 = omega arith in z) are.0))
reads_at told held failed node (before ∷ befores) (first ∷ sources) (one ∷ states) (feed ∷ feeds) (suc index) source state are h is same =
    subst (λ (n : ℕ). NodeReads told (held source) (get_or befores index 0) (failed source) n state (node_at feeds index))
    (let z : (node + 1) + index ≡ node + suc index = omega arith in z)
    (reads_at told held failed (node + 1) befores sources states feeds index source state are.1 (omega (arith, h)) is same)
reads_at told held failed node _ [] states feeds index source state are h is same = absurd (omega (arith, h))
reads_at told held failed node befores sources states feeds index source state are h is same = absurd are

-- it goes on, and all are reading still
pub reads_on : {S : Type 0} (told : Bool) (held : S → List (List ℕ)) (failed : S → ℕ) (node : ℕ) (befores : List ℕ) (sources : List S) (states : List NodeReader) (feeds : List NodeFeed)
    (index : ℕ) (source : S) (state : NodeReader) (change : NodeFeed → NodeFeed) → AreReading told held failed node befores sources states feeds → index < length sources
    → NodeReads told (held source) (get_or befores index 0) (failed source) (node + index) state (change (node_at feeds index))
    → AreReading told held failed node befores (set sources index source) (set states index state) (changed_at change index feeds)
reads_on told held failed node (before ∷ befores) (first ∷ sources) (one ∷ states) (feed ∷ feeds) zero source state change are h new =
    (subst (λ (n : ℕ). NodeReads told (held source) before (failed source) n state (change feed)) (let z : node + 0 ≡ node = omega arith in z) new, are.1)
reads_on told held failed node (before ∷ befores) (first ∷ sources) (one ∷ states) (feed ∷ feeds) (suc index) source state change are h new = (
  are.0,
  reads_on told held failed (node + 1) befores sources states feeds index source state change are.1 (omega (arith, h))
      (subst (λ (n : ℕ). NodeReads told (held source) (get_or befores index 0) (failed source) n state (change (node_at feeds index)))
      (let z : node + suc index ≡ (node + 1) + index = omega arith in z) new),
)
reads_on told held failed node _ [] states feeds index source state change are h new = absurd (omega (arith, h))
reads_on told held failed node befores sources states feeds index source state change are h new = absurd are

-- ---- before anything was read

pub new_behind : (node : ℕ) (states : List NodeReader) (state : NodeReader) → AreNew node states
    → ((told : Bool) (files : List (List ℕ)) (before : ℕ) → NodeReads told files before before (node + length states) state no_feed) → AreNew node (states ++ state ∷ [])
new_behind node [] state all new = (λ told files before. subst (λ (n : ℕ). NodeReads told files before before n state no_feed) (let z : node + 0 ≡ node = omega arith in z) (new told files before), tt)
new_behind node (first ∷ states) state all new = (
  all.0,
  new_behind (node + 1) states state all.1 (λ told files before.
      subst (λ (n : ℕ). NodeReads told files before before n state no_feed) (let z : node + length (first ∷ states) ≡ (node + 1) + length states = omega arith in z) (new told files before)),
)

pub all_begin : {S : Type 0} (told : Bool) (held : S → List (List ℕ)) (failed : S → ℕ) (node : ℕ) (sources : List S) (states : List NodeReader) (nodes : ℕ)
    → AreNew node states → length sources ≡ nodes → length states ≡ nodes → AreReading told held failed node (map failed sources) sources states (no_feeds nodes)
all_begin told held failed node [] [] zero all many same = tt
all_begin told held failed node (source ∷ sources) (state ∷ states) (suc nodes) all many same =
    (all.0 told (held source) (failed source), all_begin told held failed (node + 1) sources states nodes all.1 (omega (arith, many)) (omega (arith, same)))
all_begin told held failed node [] states (suc nodes) all many same = absurd (omega (arith, many))
all_begin told held failed node sources [] (suc nodes) all many same = absurd (omega (arith, same))
all_begin told held failed node (source ∷ sources) states zero all many same = absurd (omega (arith, many))
all_begin told held failed node sources (state ∷ states) zero all many same = absurd (omega (arith, same))

-- ---- one node

-- a reader's feed comes in order
pub reads_in_order : NodeSettledInOrder → (told : Bool) (files : List (List ℕ)) (before now node : ℕ) (state : NodeReader) (feed : NodeFeed)
    → NodeReads told files before now node state feed → IsOrderedFeed first_key feed
reads_in_order law told files before now node state feed reads =
    ordered_feed first_key (low_of (whole_reading node) (reverse reads.taken)) (settled_behind (whole_reading node) (reverse reads.taken)) feed
    (law first_key (low_of (whole_reading node) (reverse reads.taken)) (start_at first_point) node (reverse reads.taken)) reads.reads.feeding.feeds.first

-- a count that rose has risen still
pub rose_still : (before now later : ℕ) → Rose before now → now ≤ later → Rose before later
rose_still before now later rose more = omega (arith, rose, more)

-- one reader more
pub record ManyNew (nodes : ℕ) (states : List NodeReader) : Type 0 where
  pub many : length states ≡ nodes
  pub new : AreNew 1 states

pub readers_more : (node : ℕ) (states news : List NodeReader) (state : NodeReader) → length states ≡ node → AreNew 1 states
    → ((told : Bool) (files : List (List ℕ)) (before : ℕ) → NodeReads told files before before (node + 1) state no_feed) → news ≡ states ++ state ∷ [] → ManyNew (node + 1) news
readers_more node states news state many all new are =
    let place : node + 1 ≡ 1 + length states = omega (arith, many) in
    record {
      many = omega (arith, ap length are, length-append states (state ∷ []), many);
      new = subst (AreNew 1) (sym are) (new_behind 1 states state all (λ told files before. subst (λ (n : ℕ). NodeReads told files before before n state no_feed) place (new told files before)));
    }

pub so_many_feeds : (nodes : ℕ) → length (no_feeds nodes) ≡ nodes
so_many_feeds zero = refl
so_many_feeds (suc nodes) = ap (λ (n : ℕ). suc n) (so_many_feeds nodes)
