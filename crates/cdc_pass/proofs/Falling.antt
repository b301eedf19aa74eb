-- No count of faults falls.
use Rattle.std.proofs.Common.{◌≡◌, ℕ, ◌≤◌, List, subst, arith}
use Rattle.std.specs.List.{AllZip}
use Rattle.cdc_turns.proofs.Pairwise.{zip_same, zip_then}
use Rattle.cdc_windows.proofs.MorePairs.{zip_weaker}

module _ {A : Type 0} (faults : A → ℕ) where
  -- over nothing
  pub none_falls : (devices : List A) → AllZip (λ (old : A) (new : A). faults old ≤ faults new) devices devices
  none_falls devices = zip_same (λ (old : A) (new : A). faults old ≤ faults new) (λ device. omega arith) devices

  -- where they are the same
  pub same_falls : (olds news : List A) → news ≡ olds → AllZip (λ (old : A) (new : A). faults old ≤ faults new) olds news
  same_falls olds news same = subst (λ (list : List A). AllZip (λ (old : A) (new : A). faults old ≤ faults new) list news) same (none_falls news)

  -- over what lets none fall
  pub kept_falls : (R : A → A → Type 0) → ((old new : A) → R old new → faults old ≤ faults new) → (olds news firsts lasts : List A) → AllZip R olds news → olds ≡ firsts → news ≡ lasts
      → AllZip (λ (old : A) (new : A). faults old ≤ faults new) firsts lasts
  kept_falls R so olds news firsts lasts all first last =
      subst (λ (list : List A). AllZip (λ (old : A) (new : A). faults old ≤ faults new) list lasts) first
      (subst (λ (list : List A). AllZip (λ (old : A) (new : A). faults old ≤ faults new) olds list) last (zip_weaker R (λ (old : A) (new : A). faults old ≤ faults new) so olds news all))

  -- over one run and another
  pub falls_then : (olds mids news : List A) → AllZip (λ (old : A) (new : A). faults old ≤ faults new) olds mids → AllZip (λ (old : A) (new : A). faults old ≤ faults new) mids news
      → AllZip (λ (old : A) (new : A). faults old ≤ faults new) olds news
  falls_then olds mids news first second =
      zip_then (λ (old : A) (new : A). faults old ≤ faults new) (λ x y z low high. (let h : faults x ≤ faults z = omega (arith, low, high) in h)) olds mids news first second
