-- A salt in memory.
use Rattle.std.specs.Prelude.{◌≡◌, ℕ, zero, suc, ◌+◌, ◌-◌, ◌^◌, ◌==◌, ◌||◌, Bool, List, [], ◌∷◌, ◌++◌, Option, Some, None, length, min, nat_le, slice_index_or, if◌then◌else◌}
use Rattle.std.specs.List.{list_any}
use Rattle.cdc_memory.specs.Calls.{Calls}
use Rattle.cdc_memory.specs.declared.salt.MemSalt.{MemSalt}

-- the random bytes of its calls, from the first on
abbrev pub draws_of : MemSalt → List (List ℕ)
draws_of salt = salt.draws.items

-- its calls so far
abbrev pub salt_calls_of : MemSalt → Calls
salt_calls_of salt = salt.calls

-- whether the call after so many has no draw any more
abbrev pub is_past_draws : MemSalt → Bool
is_past_draws salt = nat_le (length salt.draws.items) salt.calls.calls

-- the answer of the call after so many: its draw, or none where there is none any more or the call is listed
abbrev pub answer_after : List (List ℕ) → List ℕ → ℕ → Option (List ℕ)
answer_after draws fails calls =
    if nat_le (length draws) calls || list_any (λ number. number == calls + 1) fails then None
    else Some (slice_index_or draws calls [])

-- the answers of the first calls
unfoldable pub first_answers : List (List ℕ) → List ℕ → ℕ → List (Option (List ℕ))
first_answers draws fails zero = []
first_answers draws fails (suc calls) = first_answers draws fails calls ++ answer_after draws fails calls ∷ []

-- these are the answers so far; the count of calls stands still at its type's end
pub record IsDrawn (draws : List (List ℕ)) (calls : Calls) (answers : List (Option (List ℕ))) : Type 0 where
  pub number : calls.calls ≡ min (length answers) (2 ^ 64 - 1)
  pub each : answers ≡ first_answers draws calls.fails (length answers)

-- of a salt
abbrev pub drawn_of : MemSalt → List (Option (List ℕ)) → Type 0
drawn_of salt answers = IsDrawn salt.draws.items salt.calls answers
