-- Ends counted: for the laws of jobs.
use Rattle.std.proofs.Common.{◌≡◌, ℕ, ◌+◌, Bool, true, false, cond, List, [], ◌∷◌, ◌++◌, refl, sym, ap, subst, arith, append-nil}
use Rattle.std.specs.List.{count_by}
use Rattle.std.proofs.lemmas.List.Sums.{sum_by_push}
use Rattle.cdc_turns.specs.Ends.{EndsAs}

-- an item that is no End leaves a window open
pub stays_open : {T : Type 0} (is_end : T → Bool) (window : ℕ) (items : List T) (item : T) → is_end item ≡ false → EndsAs is_end window false items → EndsAs is_end window false (items ++ item ∷ [])
stays_open is_end window items item is ends =
    let counted = sum_by_push (λ x. cond (is_end x) 1 0) items item in
    let none : ◌≡◌ {A = ℕ} (cond (is_end item) 1 0) 0 = ap (λ (b : Bool). cond b 1 0) is in
    let before : count_by is_end items + 1 ≡ window = ends in
    omega (arith, counted, none, before)

-- an End closes it
pub closes_now : {T : Type 0} (is_end : T → Bool) (window : ℕ) (items : List T) (item : T) → is_end item ≡ true → EndsAs is_end window false items → EndsAs is_end window true (items ++ item ∷ [])
closes_now is_end window items item is ends =
    let counted = sum_by_push (λ x. cond (is_end x) 1 0) items item in
    let one : ◌≡◌ {A = ℕ} (cond (is_end item) 1 0) 1 = ap (λ (b : Bool). cond b 1 0) is in
    let before : count_by is_end items + 1 ≡ window = ends in
    record { ends = omega (arith, counted, one, before); front = items; last = item; at_end = refl; is_last = is }

-- no item leaves it as it is
pub same_ends : {T : Type 0} (is_end : T → Bool) (window : ℕ) (flag : Bool) (items : List T) → EndsAs is_end window flag items → EndsAs is_end window flag (items ++ [])
same_ends is_end window flag items ends = subst (λ l. EndsAs is_end window flag l) (sym (append-nil items)) ends

-- a closed window is one End short in the next
pub opens_next : {T : Type 0} (is_end : T → Bool) (window : ℕ) (items : List T) → EndsAs is_end window true items → EndsAs is_end (window + 1) false items
opens_next is_end window items ends = ap (λ n. n + 1) ends.ends
