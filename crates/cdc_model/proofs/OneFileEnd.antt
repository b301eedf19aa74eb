-- The one file ends before the first print that it has no room for.
use Rattle.std.proofs.Common.{◌≡◌, ◌≤◌, ◌<◌, ℕ, ◌+◌, leb, Bool, true, false, List, [], ◌∷◌, ◌++◌, length, length-append, Option, Some, None, MatchOption, ap, sym, subst, refl, ◌∙◌, arith}
use Rattle.std.proofs.lemmas.Bool.{leb-true, leb-false}
use Rattle.cdc_model.specs.Records.{Transaction}
use Rattle.cdc_model.specs.Print.{printed_bytes, printed_length}
use Rattle.cdc_model.specs.Output.{prints_at, last_place, first_beyond}
use Rattle.cdc_model.specs.OneFile.{HasAll, EndsBefore, OneFileEnds}
use Rattle.cdc_model.proofs.PrintLength.{length_printed}
use Rattle.cdc_model.proofs.OutputGrowth.{within_by, beyond_by}

abbrev Ends : ℕ → List Transaction → Option Transaction → Type 0
Ends at txns beyond = MatchOption beyond (HasAll at txns) (EndsBefore at txns)

-- the length of a print and of those behind it
pub more_length : (at : ℕ) (txn : Transaction) (txns : List Transaction)
    → at + length (prints_at [] at (txn ∷ txns)) ≡ at + printed_length [] txn + length (prints_at [] (at + printed_length [] txn) txns)
more_length at txn txns =
    omega (arith, length-append (printed_bytes [] txn at) (prints_at [] (at + printed_length [] txn) txns), length_printed [] txn at)

pub ends_later : (at : ℕ) (txn : Transaction) (txns : List Transaction) (beyond : Option Transaction) → leb (at + printed_length [] txn) last_place ≡ true
    → Ends (at + printed_length [] txn) txns beyond → Ends at (txn ∷ txns) beyond
ends_later at txn txns None is all = record {
  fits = omega (arith, all.fits, more_length at txn txns);
  prints = within_by at txn txns true is ∙ ap (λ (bytes : List ℕ). printed_bytes [] txn at ++ bytes) all.prints;
}
ends_later at txn txns (Some other) is ends = record {
  front = txn ∷ ends.front;
  behind = ends.behind;
  in_order = ap (λ (list : List Transaction). txn ∷ list) ends.in_order;
  fits = omega (arith, ends.fits, more_length at txn ends.front);
  passes = omega (arith, ends.passes, more_length at txn ends.front);
  prints = within_by at txn txns true is ∙ ap (λ (bytes : List ℕ). printed_bytes [] txn at ++ bytes) ends.prints;
}

pub one_file_ends : OneFileEnds
one_file_ends at [] h = record { fits = omega (arith, h); prints = refl }
one_file_ends at (txn ∷ txns) h =
    by (leb (at + printed_length [] txn) last_place) refl (λ more. one_file_ends (at + printed_length [] txn) txns more)
  where
    by : (fits : Bool) → leb (at + printed_length [] txn) last_place ≡ fits
        → (at + printed_length [] txn ≤ last_place → Ends (at + printed_length [] txn) txns (first_beyond (at + printed_length [] txn) txns))
        → Ends at (txn ∷ txns) (first_beyond at (txn ∷ txns))
    by true is later =
        subst (Ends at (txn ∷ txns)) (sym (beyond_by at txn txns true is))
        (ends_later at txn txns (first_beyond (at + printed_length [] txn) txns) is (later (leb-true (at + printed_length [] txn) last_place is)))
    by false is later =
        subst (Ends at (txn ∷ txns)) (sym (beyond_by at txn txns false is)) record {
          front = [];
          behind = txns;
          in_order = refl;
          fits = omega (arith, h);
          passes = (let over : last_place < at + printed_length [] txn = leb-false (at + printed_length [] txn) last_place is in omega (arith, over));
          prints = within_by at txn txns false is;
        }
