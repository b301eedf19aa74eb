-- The greatest place asked for, while a file is read up to its told length.
use Rattle.std.proofs.Common.{◌≡◌, ℕ, ◌≤◌, Option, Some, None, ◌∙◌, ap, arith}
use Rattle.std.proofs.lemmas.Bool.Decides.{nat_tests}
use Rattle.cdc_base.specs.declared.place.Place.{Place}
use Rattle.cdc_outside.specs.Source.{later_place, raised, NothingPast}

-- a place in a file, and then a later one in it: the later one alone
later_again : (file end told : ℕ) (p : Place) → end ≤ told → later_place record { file = file; at = told } (later_place record { file = file; at = end } p) ≡ later_place record { file = file; at = told } p
later_again file end told p h = grind (arith, nat_tests)

later_one : (file end told : ℕ) → end ≤ told → later_place record { file = file; at = told } record { file = file; at = end } ≡ record { file = file; at = told }
later_one file end told h = grind (arith, nat_tests)

raised_again : (before : Option Place) (file end told : ℕ) → end ≤ told → raised (raised before file end) file told ≡ raised before file told
raised_again None file end told h = ap Some (later_one file end told h)
raised_again (Some p) file end told h = ap Some (later_again file end told p h)

-- one read more, up to a place that isn't past it
pub asks_within : (before now after : Option Place) (file end told : ℕ) → end ≤ told → NothingPast file told before now → after ≡ raised now file end → NothingPast file told before after
asks_within before now after file end told h past e = ap (λ p. raised p file told) e ∙ raised_again now file end told h ∙ past
