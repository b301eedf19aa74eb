-- How many branches wait: as many as were committed and not given.
use Rattle.std.proofs.Common.{◌≡◌, ℕ, ◌+◌, ◌≤◌, Bool, true, false, cond, List, [], ◌∷◌, ◌++◌, length, length-append, filter, reverse, refl, sym, ap, ◌∙◌, arith, Option, Some, None}
use Rattle.std.proofs.lemmas.List.{length-map, reverse-append, length-reverse}
use Rattle.std.proofs.lemmas.List.Elements.{filter-append}
use Rattle.cdc_base.specs.declared.key.Key.{Key}
use Rattle.cdc_base.specs.declared.key.Key.TheVariants.{Shared}
use Rattle.cdc_model.specs.Records.{LogEntry, CommittedBranch, OpenBranch, Start}
use Rattle.cdc_model.specs.declared.entry.EntryKind.{EntryKind}
use Rattle.cdc_model.specs.declared.entry.EntryKind.TheVariants.{Prepare, OnePhase, Commit, Rollback, Plain, Beat}
use Rattle.cdc_model.specs.Start.{find_open, left_by}
use Rattle.cdc_model.specs.Branch.{Begun, committed, branch_of, begun_branches, is_new, new_branches}
use Rattle.cdc_model.specs.Transaction.{has_key}
use Rattle.cdc_model.specs.Feed.{own_branches}
use Rattle.cdc_model.specs.Restart.{start_at}
use Rattle.cdc_model.proofs.OwnBranches.{has_is, has_itself, own_with}
use Rattle.cdc_sorter.specs.Sorting.{Sorting, SortReading, HoldsReading, committed_behind}

-- ---- lists with the same branches of each key are as long

-- branches without the first one of a key
abbrev without_first : Key → List CommittedBranch → List CommittedBranch
without_first key [] = []
without_first key (branch ∷ branches) = cond (has_key key branch) branches (branch ∷ without_first key branches)

-- the first one of a key, taken out and put in front
record TakenOut (key : Key) (branches : List CommittedBranch) (first : CommittedBranch) : Type 0 where
  less : length branches ≡ length (without_first key branches) + 1
  same : (other : Key) → own_branches (first ∷ without_first key branches) other ≡ own_branches branches other
  has : has_key key first ≡ true

head_is : {X : Type 0} (x y : X) (xs ys : List X) → x ∷ xs ≡ y ∷ ys → x ≡ y
head_is x y xs ys e = cc

no_branch : (branch : CommittedBranch) (rest : List CommittedBranch) → [] ≡ branch ∷ rest → ⊥
no_branch branch rest e = cc

-- one that isn't of the key, put behind the first of the key, stands as before it
passed_same : (key other : Key) (first branch : CommittedBranch) (rest branches : List CommittedBranch) → has_key key first ≡ true → has_key key branch ≡ false
    → own_branches (first ∷ rest) other ≡ own_branches branches other → own_branches (first ∷ branch ∷ rest) other ≡ own_branches (branch ∷ branches) other
passed_same key other first branch rest branches has not same = by (has_key other first) refl (has_key other branch) refl
  where
    front : (b : Bool) → has_key other first ≡ b → own_branches (first ∷ branch ∷ rest) other ≡ cond b (first ∷ own_branches (branch ∷ rest) other) (own_branches (branch ∷ rest) other)
    front b is = own_with other first (branch ∷ rest) b is

    by : (f : Bool) → has_key other first ≡ f → (b : Bool) → has_key other branch ≡ b → own_branches (first ∷ branch ∷ rest) other ≡ own_branches (branch ∷ branches) other
    by true is true at =
        absurd
        (let key_is : key ≡ first.key = has_is key first has in
        let other_is : other ≡ first.key = has_is other first is in
        let one : true ≡ false = sym at ∙ ap (λ (k : Key). has_key k branch) (other_is ∙ sym key_is) ∙ not in cc)
    by true is false at =
        front true is ∙ ap (λ (list : List CommittedBranch). first ∷ list) (own_with other branch rest false at)
        ∙ sym (own_with other first rest true is) ∙ same ∙ sym (own_with other branch branches false at)
    by false is true at =
        front false is ∙ own_with other branch rest true at
        ∙ ap (λ (list : List CommittedBranch). branch ∷ list) (sym (own_with other first rest false is) ∙ same) ∙ sym (own_with other branch branches true at)
    by false is false at =
        front false is ∙ own_with other branch rest false at ∙ sym (own_with other first rest false is) ∙ same ∙ sym (own_with other branch branches false at)

taken_out : (key : Key) (branches : List CommittedBranch) (first : CommittedBranch) (rest : List CommittedBranch) → own_branches branches key ≡ first ∷ rest → TakenOut key branches first
taken_out key [] first rest is = absurd (no_branch first rest is)
taken_out key (branch ∷ branches) first rest is = by (has_key key branch) refl (λ later. taken_out key branches first rest later)
  where
    here : branch ≡ first → has_key key branch ≡ true → TakenOut key (branch ∷ branches) first
    here same has =
        let gone : without_first key (branch ∷ branches) ≡ branches = ap (λ (b : Bool). cond b branches (branch ∷ without_first key branches)) has in record {
          less = let size = ap length gone in omega (arith, size);
          same = λ other. ap (λ (list : List CommittedBranch). own_branches (first ∷ list) other) gone ∙ ap (λ (b : CommittedBranch). own_branches (b ∷ branches) other) (sym same);
          has = ap (has_key key) (sym same) ∙ has;
        }

    later : has_key key branch ≡ false → TakenOut key branches first → TakenOut key (branch ∷ branches) first
    later not out =
        let kept : without_first key (branch ∷ branches) ≡ branch ∷ without_first key branches = ap (λ (b : Bool). cond b branches (branch ∷ without_first key branches)) not in record {
          less = let size = ap length kept in let less = out.less in omega (arith, size, less);
          same = λ other.
              ap (λ (list : List CommittedBranch). own_branches (first ∷ list) other) kept
              ∙ passed_same key other first branch (without_first key branches) branches out.has not (out.same other);
          has = out.has;
        }

    by : (b : Bool) → has_key key branch ≡ b → (own_branches branches key ≡ first ∷ rest → TakenOut key branches first) → TakenOut key (branch ∷ branches) first
    by true has deeper = here (head_is branch first (own_branches branches key) rest (sym (own_with key branch branches true has) ∙ is)) has
    by false not deeper = later not (deeper (sym (own_with key branch branches false not) ∙ is))

cond_same : {X : Type 0} (has : Bool) (x : X) (xs ys : List X) → cond has (x ∷ xs) xs ≡ cond has (x ∷ ys) ys → xs ≡ ys
cond_same true x xs ys e = cc
cond_same false x xs ys e = e

own_first : (branch : CommittedBranch) (branches : List CommittedBranch) → own_branches (branch ∷ branches) branch.key ≡ branch ∷ own_branches branches branch.key
own_first branch branches = own_with branch.key branch branches true (has_itself branch.key branch refl)

pub as_many : (xs ys : List CommittedBranch) → ((key : Key) → own_branches xs key ≡ own_branches ys key) → length xs ≡ length ys
as_many [] [] same = refl
as_many [] (y ∷ ys) same = absurd (no_branch y (own_branches ys y.key) (same y.key ∙ own_first y ys))
as_many (x ∷ xs) ys same =
    let out = taken_out x.key ys x (own_branches xs x.key) (sym (same x.key) ∙ own_first x xs) in
    let later = as_many xs (without_first x.key ys) (λ key. cond_same (has_key key x) x (own_branches xs key) (own_branches (without_first x.key ys) key) (same key ∙ sym (out.same key))) in
    let less = out.less in
    omega (arith, later, less)

-- ---- what waits in a sorter

pub waits : (sorter : Sorting) (reading : SortReading) (history : List LogEntry) (gave : List CommittedBranch) → HoldsReading sorter reading history gave
    → length gave + length sorter.waiting ≡ length (committed_behind reading history)
waits sorter reading history gave holds = sym (length-append gave sorter.waiting) ∙ as_many (gave ++ sorter.waiting) (committed_behind reading history) holds.branches

-- ---- entries more commit at most one branch each

one_at_most : (node : ℕ) (kind : EntryKind) (start : Start) → length (branch_of node kind start) ≤ 1
one_at_most node (Prepare xid rows) start = omega arith
one_at_most node (OnePhase xid rows timestamp seconds) start = omega arith
one_at_most node (Commit xid timestamp seconds) start = by (find_open xid start.opened)
  where
    by : (o : Option OpenBranch) → length (committed (Shared timestamp xid.gtrid) start.entry seconds o) ≤ 1
    by None = omega arith
    by (Some branch) = omega arith
one_at_most node (Rollback xid) start = omega arith
one_at_most node (Plain rows seconds) start = omega arith
one_at_most node (Beat timestamp) start = omega arith

filter_few : {X : Type 0} (test : X → Bool) (xs : List X) → length (filter test xs) ≤ length xs
filter_few test [] = omega arith
filter_few test (x ∷ xs) = by (test x) (filter_few test xs)
  where
    by : (passes : Bool) → length (filter test xs) ≤ length xs → length (cond passes (x ∷ filter test xs) (filter test xs)) ≤ length (x ∷ xs)
    by true h = omega (arith, h)
    by false h = omega (arith, h)

new_more : (last : Key) (start : Start) (old more : List Begun) → length (new_branches last start (old ++ more)) ≤ length (new_branches last start old) + length more
new_more last start old more =
    let split = ap length (filter-append (is_new last start) old more) in
    let all = length-append (filter (is_new last start) old) (filter (is_new last start) more) in
    let few = filter_few (is_new last start) more in
    let left = length-map (filter (is_new last start) (old ++ more)) (λ (b : Begun). b.1) in
    let right = length-map (filter (is_new last start) old) (λ (b : Begun). b.1) in
    omega (arith, split, all, few, left, right)

committed_on : (reading : SortReading) (more history : List LogEntry) → length (committed_behind reading (more ++ history)) ≤ length (committed_behind reading history) + length more
committed_on reading [] history = omega arith
committed_on reading (entry ∷ more) history =
    let start = start_at reading.from in
    let deeper = committed_on reading more history in
    let one = new_more reading.last start (begun_branches start reading.node (more ++ history)) (branch_of reading.node entry.kind (left_by start (more ++ history))) in
    let few = one_at_most reading.node entry.kind (left_by start (more ++ history)) in
    omega (arith, deeper, one, few)

-- the same of entries in the order of the log
pub committed_more : (reading : SortReading) (taken more : List LogEntry)
    → length (committed_behind reading (reverse (taken ++ more))) ≤ length (committed_behind reading (reverse taken)) + length more
committed_more reading taken more =
    let few = committed_on reading (reverse more) (reverse taken) in
    let size = length-reverse more in
    let is = ap (λ (list : List LogEntry). length (committed_behind reading list)) (reverse-append taken more) in
    omega (arith, few, size, is)
