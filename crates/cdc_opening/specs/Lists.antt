-- Three lists item by item, and counts at a place.
use Rattle.std.specs.Prelude.{ℕ, ◌-◌, ◌≤◌, List, [], ◌∷◌, length, slice_index, ⊤}
use Rattle.cdc_outside.specs.Count.{Rose}

-- this holds of the first items of three lists, of the second ones, and so on; they are as long as each other
abbrev pub AllThree : {A B C : Type 0} → (A → B → C → Type 0) → List A → List B → List C → Type 0
AllThree R [] [] [] = ⊤
AllThree R [] [] (c ∷ cs) = ⊥
AllThree R [] (b ∷ bs) cs = ⊥
AllThree R (a ∷ rest) [] cs = ⊥
AllThree R (a ∷ rest) (b ∷ bs) [] = ⊥
AllThree R (a ∷ rest) (b ∷ bs) (c ∷ cs) = R a b c × AllThree R rest bs cs

-- of counts before and now, those with this number, counted from 1, say that it rose
pub record DeviceRoseAt (before now : List ℕ) (number : ℕ) : Type 0 where
  pub first : 1 ≤ number
  pub last : number ≤ length before
  pub rose : Rose (slice_index before (number - 1)) (slice_index now (number - 1))
