-- Ends: each closes one window on a lane.
use Rattle.std.specs.Prelude.{◌≡◌, ℕ, ◌+◌, Bool, true, false, List, [], ◌∷◌, ◌++◌, length, count_by}
use Rattle.cdc_turns.specs.Account.{Passer}

-- so many windows were closed, and nothing stands behind the last End
pub record IsClosed {T : Type 0} (is_end : T → Bool) (window : ℕ) (items : List T) : Type 0 where
  pub ends : count_by is_end items ≡ window
  pub front : List T
  pub last : T
  pub at_end : items ≡ front ++ last ∷ []
  pub is_last : is_end last ≡ true

-- where the End of the open window has come, all windows are closed; else all but that one
abbrev pub EndsAs : {T : Type 0} → (T → Bool) → ℕ → Bool → List T → Type 0
EndsAs is_end window true items = IsClosed is_end window items
EndsAs is_end window false items = count_by is_end items + 1 ≡ window

-- what was so in one window is so in the next, where nothing has moved yet
abbrev pub NextWindow : {J X : Type 0} → (J → ℕ → X → Type 0) → J → J → Type 0
NextWindow {J} {X} did old new = (window : ℕ) (moved : X) → did old window moved → did new (window + 1) moved

-- the same of a job that took and gave, whose lanes stay as many
pub record NextMerge {J T U : Type 0} (account : Passer J T U) (old new : J) : Type 0 where
  pub next : (window : ℕ) (takes : List (List T)) (gives : List (List U)) → account.did old window takes gives → account.did new (window + 1) takes gives
  pub width_in : length (account.took new) ≡ length (account.took old)
  pub width_out : length (account.gave new) ≡ length (account.gave old)
