-- The sizes of a source of real files: each has the same share of the limit.
use Rattle.std.specs.Prelude.{ℕ, ◌/◌, ◌^◌, ◌≤◌, List, replicate, sum}
use Rattle.std.proofs.Common.{subst, sym}
use Rattle.std.proofs.Math.Nat.{mul-div-le}
use Rattle.std.proofs.lemmas.List.Folds.{sum_by-replicate}

-- the number of each of so many files
abbrev pub shares : ℕ → List ℕ
shares files = replicate files (2 ^ 54 / files)

-- together they are within the limit
pub shares_fit : (files : ℕ) → sum (shares files) ≤ 2 ^ 54
shares_fit files =
    let P : ℕ → Type 0 = λ n. n ≤ 2 ^ 54 in
    subst P (sym (sum_by-replicate (λ x. x) files (2 ^ 54 / files))) (mul-div-le (2 ^ 54) files)
