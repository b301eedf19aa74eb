-- How often each floor stands among some.
use Rattle.std.specs.Prelude.{◌≡◌, ℕ, ◌+◌, List, [], ◌∷◌, Some, if◌then◌else◌}
use Rattle.std.specs.BTreeMap.{is_at}
use Rattle.std.specs.Map.{lookup}
use Rattle.std.specs.Option.{unwrap_or}
use Rattle.std.specs.Ordering.{nat_cmp}

-- how often a number is among some
abbrev pub times_in : ℕ → List ℕ → ℕ
times_in number [] = 0
times_in number (other ∷ numbers) = (if is_at (nat_cmp other) number then 1 else 0) + times_in number numbers

-- how often a table says that a number is there
abbrev pub times_told : ℕ → List (ℕ × ℕ) → ℕ
times_told number counts = unwrap_or (lookup (is_at (nat_cmp number)) counts) 0

-- a table says of each number how often it is among some, and names none that isn't
pub record TellsTimes (counts : List (ℕ × ℕ)) (numbers : List ℕ) : Type 0 where
  pub times : (number : ℕ) → times_told number counts ≡ times_in number numbers
  pub there : (number : ℕ) → lookup (is_at (nat_cmp number)) counts ≡ Some 0 → ⊥
