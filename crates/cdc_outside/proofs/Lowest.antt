-- The least place asked for, while a file is read from its start.
use Rattle.std.proofs.Common.{◌≡◌, ℕ, ◌⊎◌, inl, inr, Option, Some, None, ◌∙◌, ap, arith}
use Rattle.std.proofs.lemmas.Bool.Decides.{nat_tests}
use Rattle.cdc_base.specs.declared.place.Place.{Place}
use Rattle.cdc_outside.specs.Source.{earlier_place, lowered}

-- a place later in a file isn't before its start
earlier_again : (file at : ℕ) (p : Place) → earlier_place record { file = file; at = at } (earlier_place record { file = file; at = 0 } p) ≡ earlier_place record { file = file; at = 0 } p
earlier_again file at p = grind (arith, nat_tests)

-- reading on in a file doesn't lower the least place
lowered_again : (before : Option Place) (file at : ℕ) → lowered (lowered before file 0) file at ≡ lowered before file 0
lowered_again None file at = grind (arith, nat_tests)
lowered_again (Some p) file at = ap Some (earlier_again file at p)

-- either nothing was asked for yet, or the file's start
abbrev pub SoFar : Option Place → ℕ → ℕ → Option Place → Type 0
SoFar before file at now = ((at ≡ 0) × (now ≡ before)) ⊎ (now ≡ lowered before file 0)

pub asks_again : (before now after : Option Place) (file at : ℕ) → SoFar before file at now → after ≡ lowered now file at → after ≡ lowered before file 0
asks_again before now after file at (inl h) e = e ∙ ap (λ p. lowered p file at) h.1 ∙ ap (λ n. lowered before file n) h.0
asks_again before now after file at (inr h) e = e ∙ ap (λ p. lowered p file at) h ∙ lowered_again before file at
