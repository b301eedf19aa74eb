-- Lists for each lane.
use Rattle.std.specs.Prelude.{ℕ, List, [], ◌∷◌, ◌++◌, length, map, ⊤}
use Rattle.std.specs.List.{sum_by}
use Rattle.cdc_lane.specs.declared.plain.PlainLane.{PlainLane}
use Rattle.cdc_lane.specs.Held.{held}

-- one list behind another, lane by lane; a lane that one side doesn't have is empty there
abbrev pub joined : {T : Type 0} → List (List T) → List (List T) → List (List T)
joined [] others = others
joined (items ∷ lists) [] = items ∷ lists
joined (items ∷ lists) (more ∷ others) = (items ++ more) ∷ joined lists others

-- how many items all lists have
abbrev pub total : {T : Type 0} → List (List T) → ℕ
total lists = sum_by length lists

-- what each lane holds
abbrev pub contents : {T : Type 0} → List (PlainLane T) → List (List T)
contents lanes = map held lanes

-- no item for each of some
abbrev pub nothing_for : {A T : Type 0} → List A → List (List T)
nothing_for olds = map (λ _. []) olds

-- each of the first became one of the last by items, those in the middle
abbrev pub AllTurned : {J T : Type 0} → (J → List T → J → Type 0) → List J → List (List T) → List J → Type 0
AllTurned turned [] [] [] = ⊤
AllTurned turned [] [] (new ∷ news) = ⊥
AllTurned turned [] (items ∷ lists) news = ⊥
AllTurned turned (old ∷ olds) [] news = ⊥
AllTurned turned (old ∷ olds) (items ∷ lists) [] = ⊥
AllTurned turned (old ∷ olds) (items ∷ lists) (new ∷ news) = turned old items new × AllTurned turned olds lists news
