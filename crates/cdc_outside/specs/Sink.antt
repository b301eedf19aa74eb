-- What a write leaves.
use Rattle.std.specs.Prelude.{◌≡◌, ℕ, List, ◌++◌}

-- some front of the bytes, maybe none or all, was written behind what stood there
abbrev pub WritesTo : List ℕ → List ℕ → List ℕ → Type 0
WritesTo before bytes now = (front : List ℕ) × (rest : List ℕ) × (bytes ≡ front ++ rest) × (now ≡ before ++ front)
