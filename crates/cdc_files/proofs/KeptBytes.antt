-- What is kept of a reader whose bytes are known.
use Rattle.std.proofs.Common.{◌≡◌, ℕ, zero, suc, List, [], ◌∷◌, ◌++◌, take, Option, Some, None, refl, ap, ◌∙◌, IfSome}
use Rattle.std.specs.Option.{option_map}

taken_again : (n : ℕ) (xs : List ℕ) → take n (take n xs) ≡ take n xs
taken_again zero xs = refl
taken_again (suc n) [] = refl
taken_again (suc n) (x ∷ xs) = ap (λ rest. x ∷ rest) (taken_again n xs)

kept_bytes_of : (known : Option (List ℕ)) (most : ℕ) (before bytes kept : List ℕ) (P : Type 0) → before ≡ [] →
    IfSome (option_map (take most) known) (λ xs. bytes ≡ before ++ xs) → kept ≡ take most bytes → IfSome known (λ all. P → kept ≡ take most all)
kept_bytes_of None most before bytes kept P empty read is = tt
kept_bytes_of (Some all) most before bytes kept P empty read is =
    λ p. is ∙ ap (λ xs. take most xs) (read ∙ ap (λ front. front ++ take most all) empty) ∙ taken_again most all

pub known_kept : {R : Type 0} (remaining : R → Option (List ℕ)) (reader inner : R) (limit most : ℕ) (before bytes kept : List ℕ) (P : Type 0) → inner ≡ reader → limit ≡ most → before ≡ [] →
    IfSome (option_map (take limit) (remaining inner)) (λ xs. bytes ≡ before ++ xs) → kept ≡ take most bytes → IfSome (remaining reader) (λ all. P → kept ≡ take most all)
known_kept remaining reader inner limit most before bytes kept P same bound empty read is =
    kept_bytes_of (remaining reader) most before bytes kept P empty (rw (same, bound) at read) is
