-- How many comparisons a merger makes.
use Rattle.std.proofs.Common.{◌≡◌, ◌≤◌, ◌<◌, ℕ, zero, suc, ◌+◌, ◌-◌, ◌*◌, ◌^◌, List, [], ◌∷◌, ◌++◌, length, length-append, Option, Some, None, if◌then◌else◌, Bool, true, false, ap, sym, refl, subst, ◌∙◌, arith}
use Rattle.std.specs.Prelude.{slice_set, slice_index_or}
use Rattle.cdc_base.specs.declared.key.Key.{Key}
use Rattle.cdc_base.specs.Key.{key_order}
use Rattle.cdc_model.specs.Records.{CommittedBranch, Transaction}
use Rattle.cdc_model.specs.Branch.{is_settled}
use Rattle.cdc_model.specs.Transaction.{has_key}
use Rattle.cdc_model.specs.Feed.{NodeFeed}
use Rattle.cdc_model.proofs.OwnBranches.{has_itself}
use Rattle.cdc_merger.specs.Heads.{head_at, one_head, head_count, HasNoHead, LeadsWith}
use Rattle.cdc_merger.specs.Feeding.{front_of}
use Rattle.cdc_merger.specs.Rounds.{head_under, node_at, CanGather, TakesFew}
use Rattle.cdc_merger.specs.Merging.{Merging, HasCounted, CountsNext, branches_in}
use Rattle.cdc_merger.proofs.Heading.{count_set, few_heads, at_any}

-- a node whose head is a key has a branch of it in front
some_front : (round : ℕ) (key : Key) (branches : List CommittedBranch) → head_under round branches ≡ Some key → 1 ≤ length (front_of key branches)
some_front round key [] is = absurd (let e = is in cc)
some_front round key (branch ∷ branches) is = by (is_settled round branch.key) refl
  where
    head_by : (b : Bool) → is_settled round branch.key ≡ b → head_under round (branch ∷ branches) ≡ (if b then Some branch.key else None)
    head_by b e = ap (λ (b : Bool). if b then Some branch.key else None) e

    front_by : (b : Bool) → has_key key branch ≡ b → front_of key (branch ∷ branches) ≡ (if b then branch ∷ front_of key branches else [])
    front_by b e = ap (λ (b : Bool). if b then branch ∷ front_of key branches else []) e

    by : (b : Bool) → is_settled round branch.key ≡ b → 1 ≤ length (front_of key (branch ∷ branches))
    by true e =
        let some : Some branch.key ≡ Some key = sym (head_by true e) ∙ is in
        let same : key ≡ branch.key = cc in
        let front = ap (λ (list : List CommittedBranch). length list) (front_by true (has_itself key branch same)) in
        omega (arith, front)
    by false e =
        let none : None ≡ Some key = sym (head_by false e) ∙ is in
        absurd (let f = none in cc)

more_times : (d a b : ℕ) → (d + 1) * (a + b) ≡ (d + 1) * a + (d + 1) * b
more_times d a b = omega arith

one_time : (d n : ℕ) → 1 ≤ n → d + 1 ≤ (d + 1) * n
one_time d zero h = absurd (omega arith)
one_time d (suc n) h = omega (arith, more_times d n 1)

-- one node's branches take as many comparisons as its head's change
pub few_step : (round : ℕ) (key head given : Key) (from node other steps later end : ℕ) (nodes : List NodeFeed) (heads middle new_heads : List (Option Key)) (own more new_own : List CommittedBranch)
    (next : Option Key) (d : NodeFeed) → CanGather round key from nodes heads → from ≤ node → LeadsWith key_order heads node head → head ≡ key
    → more ≡ own ++ front_of key (slice_index_or nodes node d).branches → LeadsWith key_order heads other given → middle ≡ slice_set heads other next
    → ((digits : ℕ) → length heads < 2 ^ digits → later ≤ steps + digits) → TakesFew (length nodes) later end middle new_heads more new_own
    → TakesFew (length nodes) steps end heads new_heads own new_own
few_step round key head given from node other steps later end nodes heads middle new_heads own more new_own next d r h leading same shared gone put counted few digits fits =
    let once = counted digits (omega (arith, r.many, fits)) in
    let rest = few digits fits in
    let leads = subst (LeadsWith key_order heads node) same leading in
    let within = omega_within leads.within r.many in
    let front = some_front round key (node_at nodes node).branches (sym (r.waits node h) ∙ leads.has) in
    let at = ap (λ (feed : NodeFeed). length (front_of key feed.branches)) (at_any nodes node d (record { branches = []; bound = 0 }) within) in
    let long = ap (λ (list : List CommittedBranch). length list) shared in
    let joined = length-append own (front_of key (slice_index_or nodes node d).branches) in
    let set = count_set heads other next gone.within in
    let there = few_heads (head_at heads other) in
    let counts = ap (λ (list : List (Option Key)). head_count list) put in
    let total : length more ≡ length own + length (front_of key (slice_index_or nodes node d).branches) = omega (arith, long, joined) in
    let some : 1 ≤ length (front_of key (slice_index_or nodes node d).branches) = omega (arith, front, at) in
    let times = ap (λ (n : ℕ). (digits + 1) * n) total in
    let split = more_times digits (length own) (length (front_of key (slice_index_or nodes node d).branches)) in
    let least = one_time digits (length (front_of key (slice_index_or nodes node d).branches)) some in
    omega (arith, once, rest, set, there, counts, times, split, least)
  where
    omega_within : {a b c : ℕ} → a < b → b ≡ c → a < c
    omega_within h e = omega arith

none_counted : {K : Type 0} (heads : List (Option K)) → HasNoHead heads → head_count heads ≡ 0
none_counted [] none = refl
none_counted (head ∷ heads) (absent, none) = let first = ap one_head absent in let rest = none_counted heads none in omega (arith, first, rest)

pub entered_few : (steps end : ℕ) (heads entered : List (Option Key)) → heads ≡ entered → end ≤ steps + (head_count entered - 1) → end ≤ steps + head_count heads
entered_few steps end heads entered same few = let count = ap (λ (list : List (Option Key)). head_count list) same in omega (arith, count, few)

pub prepared_few : (steps end : ℕ) (heads new_heads : List (Option Key)) → HasNoHead heads → end ≤ steps + head_count new_heads → end + head_count heads ≤ steps + head_count new_heads
prepared_few steps end heads new_heads none few = let empty = none_counted heads none in omega (arith, empty, few)

branches_more : (gave : List Transaction) (txn : Transaction) → branches_in (gave ++ txn ∷ []) ≡ branches_in gave + length txn.branches
branches_more [] txn = omega arith
branches_more (first ∷ gave) txn = let rest = branches_more gave txn in omega (arith, rest)

pub counts_none : (old new : Merging) (start steps end : ℕ) (gave : List Transaction) → new.nodes ≡ old.nodes → end + head_count old.heads ≤ steps + head_count new.heads → HasNoHead new.heads
    → HasCounted old start steps gave → CountsNext new start end gave None
counts_none old new start steps end gave nodes few none counted digits fits =
    let same = ap (λ (list : List NodeFeed). length list) nodes in
    let before = counted digits (omega (arith, same, fits)) in
    let empty = none_counted new.heads none in
    omega (arith, before, few, empty)

pub counts_some : (old mid new : Merging) (start steps middle end : ℕ) (gave : List Transaction) (txn : Transaction) → length mid.nodes ≡ length old.nodes → length new.nodes ≡ length old.nodes
    → middle + head_count old.heads ≤ steps + head_count mid.heads → TakesFew (length mid.nodes) middle end mid.heads new.heads [] txn.branches
    → HasCounted old start steps gave → CountsNext new start end gave (Some txn)
counts_some old mid new start steps middle end gave txn same long few took counted digits fits =
    let before = counted digits (omega (arith, long, fits)) in
    let now = took digits (omega (arith, same, long, fits)) in
    let more = ap (λ (n : ℕ). (digits + 1) * n) (branches_more gave txn) in
    let split = more_times digits (branches_in gave) (length txn.branches) in
    omega (arith, before, few, now, more, split)
