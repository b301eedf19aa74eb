-- The answers of a salt in memory, one call after another.
use Rattle.std.proofs.Common.{◌≡◌, ℕ, suc, ◌+◌, ◌-◌, ◌^◌, ◌<◌, ◌≤◌, ◌⊎◌, Bool, true, false, List, [], ◌∷◌, ◌++◌, length, min, refl, sym, ◌∙◌, ap, subst, inl, inr, add-one, arith, length-append, le-leb}
use Rattle.std.specs.Prelude.{◌==◌, ◌||◌, Option, Some, None, nat_le, slice_index_or, IsTrue, if◌then◌else◌}
use Rattle.std.specs.List.{list_any}
use Rattle.cdc_memory.specs.Calls.{Calls, counted, after_call}
use Rattle.cdc_memory.specs.Salt.{answer_after, first_answers, IsDrawn}

-- the answer where a count of calls stands still at its type's end
abbrev pub counted_answer : List (List ℕ) → List ℕ → ℕ → Option (List ℕ)
counted_answer draws fails calls =
    if nat_le (length draws) calls || list_any (λ number. number == counted calls) fails then None
    else Some (slice_index_or draws calls [])

past : (draws : List (List ℕ)) (fails : List ℕ) (n : ℕ) (other : Bool) (d : Option (List ℕ)) → length draws ≤ n → (if nat_le (length draws) n || other then None else d) ≡ None
past draws fails n other d within =
    ap (λ b. if b || other then None else d) (le-leb (length draws) n within)

-- it is the answer of the call after so many, also where the count stands still
pub counted_is : (draws : List (List ℕ)) (fails : List ℕ) (n calls : ℕ) → length draws ≤ 2 ^ 64 - 1 → calls ≡ min n (2 ^ 64 - 1) → counted_answer draws fails calls ≡ answer_after draws fails n
counted_is draws fails n calls short e =
    elim (below_or n (2 ^ 64 - 1)) [
      | inl below ↦
          let same : calls ≡ n = omega (arith, e, below) in
          let next : min (n + 1) (2 ^ 64 - 1) ≡ n + 1 = omega (arith, below) in
          ap (λ m. counted_answer draws fails m) same ∙ ap (λ m. if nat_le (length draws) n || list_any (λ number. number == m) fails then None else Some (slice_index_or draws n [])) next
      | inr above ↦
          let most : length draws ≤ calls = omega (arith, e, above, short) in
          let more : length draws ≤ n = omega (arith, above, short) in
          past draws fails calls _ _ most ∙ sym (past draws fails n _ _ more)
    ]
  where
    below_or : (a b : ℕ) → (a < b) ⊎ (b ≤ a)
    below_or a b = grind arith

-- one answer more
pub one_more : (draws : List (List ℕ)) (fails : List ℕ) (answers : List (Option (List ℕ))) (answer : Option (List ℕ)) → answers ≡ first_answers draws fails (length answers) → answer ≡ answer_after draws fails (length answers) → answers ++ answer ∷ [] ≡ first_answers draws fails (length (answers ++ answer ∷ []))
unfolding first_answers
one_more draws fails answers answer each last =
    let number : length (answers ++ answer ∷ []) ≡ suc (length answers) = length-append answers (answer ∷ []) ∙ add-one (length answers) in
    ap (λ l. l ++ answer ∷ []) each ∙ ap (λ a. first_answers draws fails (length answers) ++ a ∷ []) last ∙ ap (λ n. first_answers draws fails n) (sym number)

-- a call that did not fail was not to fail
pub not_failing : (failing failed : Bool) → (IsTrue failing → IsTrue failed) → failed ≡ false → failing ≡ false
not_failing true failed h e = absurd (let t = h refl in cc)
not_failing false failed h e = refl

pub none_is : (draws : List (List ℕ)) (fails : List ℕ) (calls : ℕ) → (nat_le (length draws) calls || list_any (λ number. number == counted calls) fails) ≡ true → counted_answer draws fails calls ≡ None
none_is draws fails calls failing = ap (λ b. if b then None else Some (slice_index_or draws calls [])) failing

pub some_is : (draws : List (List ℕ)) (fails : List ℕ) (calls : ℕ) (draw : List ℕ) → (nat_le (length draws) calls || list_any (λ number. number == counted calls) fails) ≡ false → slice_index_or draws calls [] ≡ draw → counted_answer draws fails calls ≡ Some draw
some_is draws fails calls draw failing e = ap (λ b. if b then None else Some (slice_index_or draws calls [])) failing ∙ ap (λ d. Some d) e

-- one call more
pub drawn_more : (draws : List (List ℕ)) (before now : Calls) (barred : Bool) (answers : List (Option (List ℕ))) (answer : Option (List ℕ)) → length draws ≤ 2 ^ 64 - 1 → now ≡ after_call barred before → counted_answer draws before.fails before.calls ≡ answer → IsDrawn draws before answers → IsDrawn draws now (answers ++ answer ∷ [])
drawn_more draws before now barred answers answer short after last h =
    let longer = length-append answers (answer ∷ []) in
    let same : before.fails ≡ now.fails = sym (ap (λ calls. calls.fails) after) in
    record {
      number = ap (λ calls. calls.calls) after ∙ omega (arith, h.number, longer);
      each = subst (λ fails. answers ++ answer ∷ [] ≡ first_answers draws fails (length (answers ++ answer ∷ []))) same
          (one_more draws before.fails answers answer h.each (sym last ∙ counted_is draws before.fails (length answers) before.calls short h.number));
    }
