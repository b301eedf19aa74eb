-- A sound checkpoint that isn't behind the last one is the last one.
use Rattle.std.proofs.Common.{◌≡◌, ℕ, zero, suc, ◌+◌, ◌≤◌, inl, List, [], ◌∷◌, length, take, ap, sym, subst, refl, ◌∙◌, arith}
use Rattle.std.specs.Prelude.{sum_by, Contains, slice_get}
use Rattle.std.proofs.lemmas.List.{length-map}
use Rattle.std.proofs.lemmas.List.Sums.{sum_by-cons}
use Rattle.std.specs.List.{AllZip, enumerate_from}
use Rattle.std.specs.List.Sorted.{IsStrictlySortedBy}
use Rattle.std.specs.Ordering.{is_gt}
use Rattle.std.specs.declared.cmp.Ordering.TheVariants.{Less}
use Rattle.cdc_base.specs.declared.key.Key.{Key}
use Rattle.cdc_base.specs.Key.{key_order, first_key}
use Rattle.cdc_model.specs.declared.node_log.NodeLog.{NodeLog}
use Rattle.cdc_model.specs.Records.{CommittedBranch, LogEntry, Transaction}
use Rattle.cdc_model.specs.Output.{layout_of}
use Rattle.cdc_model.specs.Soundness.{sound_entries}
use Rattle.cdc_model.specs.Transaction.{all_branches, key_or_first, key_at}
use Rattle.cdc_model.specs.Growth.{LogsGrow}
use Rattle.cdc_model.specs.Restart.{RestartPoint, first_point, point_before, IsAtMost, IsRestartPoint, IsLatestPoint}
use Rattle.cdc_model.proofs.KeyList.{IsBelowAll}
use Rattle.cdc_model.proofs.Fronts.{front_itself}
use Rattle.cdc_model.proofs.GlobalOrder.{keys_in}
use Rattle.cdc_model.proofs.SettledKeys.{keys_of}
use Rattle.cdc_model.proofs.OrderCut.{settled_is_exact}
use Rattle.cdc_model.proofs.NodePoints.{restart_points_stay}
use Rattle.cdc_model.proofs.RestartPoints.{at_most_itself, at_most_on}
use Rattle.cdc_model.proofs.RestartOrder.{greater, all_above, above_member, below_from}
use Rattle.cdc_recovery.specs.Outputs.{OutputPlan, planned_transactions}
use Rattle.cdc_recovery.specs.Laws.{LatestIsLast}

-- ---- keys rise

-- the n-th of some keys behind another, which is the 0th
abbrev key_behind : Key → ℕ → List Key → Key
key_behind low zero keys = low
key_behind low (suc n) [] = low
key_behind low (suc n) (key ∷ keys) = key_behind key n keys

behind_is : (low : Key) (n : ℕ) (txn : Transaction) (txns : List Transaction) → n ≤ length txns → key_or_first (slice_get (txn ∷ txns) n) ≡ key_behind txn.key n (keys_in txns)
behind_is low zero txn txns h = refl
behind_is low (suc n) txn [] h = absurd (omega (arith, h))
behind_is low (suc n) txn (next ∷ txns) h = behind_is low n next txns (omega (arith, h))

at_is_behind : (n : ℕ) (txns : List Transaction) → n ≤ length txns → key_at txns n ≡ key_behind first_key n (keys_in txns)
at_is_behind zero txns h = refl
at_is_behind (suc n) [] h = absurd (omega (arith, h))
at_is_behind (suc n) (txn ∷ txns) h = behind_is first_key n txn txns (omega (arith, h))

-- a key that is below another is at most that
below_at_most : (a b : Key) → key_order a b ≡ Less → IsAtMost a b
below_at_most a b less = ap is_gt less

-- of keys in order none is below an earlier one
not_below_first : (low : Key) (n : ℕ) (keys : List Key) → IsBelowAll low keys → IsStrictlySortedBy key_order keys → IsAtMost low (key_behind low n keys)
unfolding IsStrictlySortedBy
not_below_first low zero keys under sorted = at_most_itself low
not_below_first low (suc n) [] under sorted = at_most_itself low
not_below_first low (suc n) (key ∷ keys) (here, under) (below, sorted) =
    at_most_on low key (key_behind key n keys) (below_at_most low key here) (not_below_first key n keys below sorted)

keys_rise_by : (low : Key) (n m : ℕ) (keys : List Key) → n ≤ m → m ≤ length keys → IsBelowAll low keys → IsStrictlySortedBy key_order keys
    → IsAtMost (key_behind low n keys) (key_behind low m keys)
unfolding IsStrictlySortedBy
keys_rise_by low zero m keys order within under sorted = not_below_first low m keys under sorted
keys_rise_by low (suc n) zero keys order within under sorted = absurd (omega (arith, order))
keys_rise_by low (suc n) (suc m) [] order within under sorted = absurd (omega (arith, within))
keys_rise_by low (suc n) (suc m) (key ∷ keys) order within (here, under) (below, sorted) = keys_rise_by key n m keys (omega (arith, order)) (omega (arith, within)) below sorted

-- the keys of settled transactions
keys_rise : (plan : OutputPlan) (logs : List NodeLog) (n m : ℕ) → n ≤ m → m ≤ length (planned_transactions plan logs)
    → IsAtMost (key_at (planned_transactions plan logs) n) (key_at (planned_transactions plan logs) m)
keys_rise plan logs n m order within =
    let txns : List Transaction = planned_transactions plan logs in
    let exact = settled_is_exact plan.rules 0 first_key logs in
    let above_first : (key : Key) → Contains (keys_in txns) key → key_order first_key key ≡ Less =
    λ key found.
    greater key first_key
    (above_member first_key (all_branches first_key logs) key
    (subst (λ (list : List CommittedBranch). Contains (keys_of list) key) (all_above first_key first_key 1 logs (inl refl)) ((exact.exact key).0 found).present)).1 in
    let number : m ≤ length (keys_in txns) = omega (arith, within, length-map txns (λ (txn : Transaction). txn.key)) in
    let rises : IsAtMost (key_behind first_key n (keys_in txns)) (key_behind first_key m (keys_in txns)) =
    keys_rise_by first_key n m (keys_in txns) order number (below_from first_key (keys_in txns) above_first) exact.ascending in
    subst (λ (k : Key). IsAtMost k (key_at txns m)) (sym (at_is_behind n txns (omega (arith, order, within))))
    (subst (λ (k : Key). IsAtMost (key_behind first_key n (keys_in txns)) k) (sym (at_is_behind m txns within)) rises)

-- ---- points

-- logs go on as they are
stand_still : (logs : List NodeLog) → LogsGrow logs logs
stand_still [] = tt
stand_still (log ∷ logs) = (record { same_start = refl; front = front_itself (sound_entries log.start log.entries) }, stand_still logs)

abbrev Points : Key → ℕ → List NodeLog → List RestartPoint → Type 0
Points last number logs points =
    AllZip (λ (node : ℕ × NodeLog) (point : RestartPoint). IsRestartPoint last first_point node.0 (sound_entries node.1.start node.1.entries) point) (enumerate_from number logs) points

abbrev Latest : Key → ℕ → List NodeLog → List RestartPoint → Type 0
Latest last number logs points =
    AllZip (λ (node : ℕ × NodeLog) (point : RestartPoint). IsLatestPoint last first_point node.0 (sound_entries node.1.start node.1.entries) point) (enumerate_from number logs) points

abbrev sum_of : List RestartPoint → ℕ
sum_of points = sum_by (λ (point : RestartPoint). point.entry) points

sum_with : (p : RestartPoint) (points : List RestartPoint) → sum_of (p ∷ points) ≡ p.entry + sum_of points
sum_with p points = sum_by-cons (λ (point : RestartPoint). point.entry) p points

-- no points have more entries than the latest
entries_below : (last : Key) (number : ℕ) (logs : List NodeLog) (points latest : List RestartPoint) → Points last number logs points → Latest last number logs latest → sum_of points ≤ sum_of latest
entries_below last number [] [] [] are is = omega arith
entries_below last number [] [] (q ∷ latest) are is = absurd is
entries_below last number [] (p ∷ points) latest are is = absurd are
entries_below last number (log ∷ logs) [] latest are is = absurd are
entries_below last number (log ∷ logs) (p ∷ points) [] are is = absurd is
entries_below last number (log ∷ logs) (p ∷ points) (q ∷ latest) (here, are) (best, is) =
    omega (arith, best.latest p.entry here.sound, entries_below last (number + 1) logs points latest are is, sum_with p points, sum_with q latest)

-- those that have as many are the latest
same_points : (last : Key) (number : ℕ) (logs : List NodeLog) (points latest : List RestartPoint) → Points last number logs points → Latest last number logs latest
    → sum_of latest ≤ sum_of points → points ≡ latest
same_points last number [] [] [] are is as_many = refl
same_points last number [] [] (q ∷ latest) are is as_many = absurd is
same_points last number [] (p ∷ points) latest are is as_many = absurd are
same_points last number (log ∷ logs) [] latest are is as_many = absurd are
same_points last number (log ∷ logs) (p ∷ points) [] are is as_many = absurd is
same_points last number (log ∷ logs) (p ∷ points) (q ∷ latest) (here, are) (best, is) as_many =
    let entries : List LogEntry = sound_entries log.start log.entries in
    let most : p.entry ≤ q.entry = best.latest p.entry here.sound in
    let behind : sum_of points ≤ sum_of latest = entries_below last (number + 1) logs points latest are is in
    let entry_is : p.entry ≡ q.entry = omega (arith, most, behind, as_many, sum_with p points, sum_with q latest) in
    let rest : sum_of latest ≤ sum_of points = omega (arith, most, as_many, sum_with p points, sum_with q latest) in
    let same : p ≡ q = here.parts ∙ (ap (point_before first_point entries) entry_is ∙ sym best.sound.parts) in
    let others = same_points last (number + 1) logs points latest are is rest in
    λ i. same i ∷ others i

pub latest_is_last : LatestIsLast
latest_is_last plan logs p q sound last as_many =
    let txns : List Transaction = planned_transactions plan logs in
    let fewer : p.count ≤ q.count = omega (arith, sound.within, last.all) in
    let rises : IsAtMost p.last q.last =
    subst (λ (k : Key). IsAtMost k q.last) (sym sound.last)
    (subst (λ (k : Key). IsAtMost (key_at txns p.count) k) (sym last.sound.last) (keys_rise plan logs p.count q.count fewer last.sound.within)) in
    let points : Points q.last 1 logs p.nodes = restart_points_stay p.last q.last logs logs p.nodes rises (stand_still logs) sound.points in
    let below : sum_of p.nodes ≤ sum_of q.nodes = entries_below q.last 1 logs p.nodes q.nodes points last.latest in
    let count_is : p.count ≡ q.count = omega (arith, fewer, below, as_many) in
    let rest : sum_of q.nodes ≤ sum_of p.nodes = omega (arith, fewer, as_many) in
    record {
      count = count_is;
      layout = sound.layout ∙ (ap (λ (n : ℕ). layout_of plan.rules plan.rotation (take n txns)) count_is ∙ sym last.sound.layout);
      last = sound.last ∙ (ap (key_at txns) count_is ∙ sym last.sound.last);
      nodes = same_points q.last 1 logs p.nodes q.nodes points last.latest rest;
    }
