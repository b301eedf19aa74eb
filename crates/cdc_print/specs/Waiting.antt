-- Bytes that wait in pieces.
use Rattle.std.specs.Prelude.{ℕ, List, ◌++◌}
use Rattle.std.specs.List.{flat_map}

-- pieces as the bytes that they are, one behind another: those that are full, and the last
abbrev pub piece_bytes : List (List ℕ) → List ℕ → List ℕ
piece_bytes full last = flat_map (λ (piece : List ℕ). piece) full ++ last
