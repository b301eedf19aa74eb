-- One of many was changed at its place.
use Rattle.std.proofs.Common.{◌≡◌, ℕ, ◌+◌, ◌-◌, ◌<◌, ◌≤◌, List, length, get_or, set, map, refl, sym, ◌∙◌, ap, subst, arith}
use Rattle.std.specs.Prelude.{Option}
use Rattle.std.proofs.lemmas.List.{length-map, get_or-map, get_or-set_same, get_or-set_other, length-set}
use Rattle.cdc_base.specs.declared.place.Place.{Place}
use Rattle.cdc_outside.specs.Count.{Rose}
use Rattle.cdc_opening.specs.Lists.{DeviceRoseAt}
use Rattle.cdc_opening.specs.OpenSources.{IsSourceKept}

-- a place behind the changed one is as it was
pub same_behind : {A : Type 0} (news olds : List A) (k : ℕ) (new : A) → ((j : ℕ) (d : A) → k ≤ j → get_or news j d ≡ get_or olds j d)
    → (j : ℕ) (d : A) → k + 1 ≤ j → get_or (set news k new) j d ≡ get_or olds j d
same_behind news olds k new same j d le =
    get_or-set_other news k j new d (λ (e : j ≡ k). let h : k + 1 ≤ j = le in absurd (omega (arith, h, e))) ∙ same j d (let h : k ≤ j = omega (arith, le) in h)

-- the one that is changed was as at first
pub as_first : {A : Type 0} (olds news : List A) (k : ℕ) (read : A) → ((j : ℕ) (d : A) → k ≤ j → get_or news j d ≡ get_or olds j d) → read ≡ get_or news k read → get_or news k read ≡ get_or olds k (get_or news k read)
as_first olds news k read same is = ap (λ v. get_or news k v) is ∙ same k (get_or news k read) (let h : k ≤ k = omega arith in h)

-- the count of the one that is changed rose
pub rose_put : {A : Type 0} (faults : A → ℕ) (olds news : List A) (k number : ℕ) (old new : A) → length news ≡ length olds → k < length olds → old ≡ get_or olds k old
    → number ≡ k + 1 → Rose (faults old) (faults new) → DeviceRoseAt (map faults olds) (map faults (set news k new)) number
rose_put faults olds news k number old new long within is number_is rose = record {
  first = omega (arith, number_is);
  last = let many = length-map olds faults in omega (arith, many, within, number_is, long);
  rose =
      let here : k < length news = omega (arith, within, long) in
      let longer = length-set news k new in
      let there : k < length (set news k new) = omega (arith, here, longer) in
      let before : get_or (map faults olds) k 0 ≡ faults old = get_or-map faults olds k old 0 within ∙ ap faults (sym is) in
      let now : get_or (map faults (set news k new)) k 0 ≡ faults new = get_or-map faults (set news k new) k new 0 there ∙ ap faults (get_or-set_same news k new new here) in
      let place : k ≡ number - 1 = omega (arith, number_is) in
      subst (λ n. Rose (get_or (map faults olds) n 0) (get_or (map faults (set news k new)) n 0)) place
      (subst (λ (n : ℕ). Rose n (get_or (map faults (set news k new)) k 0)) (sym before) (subst (λ (n : ℕ). Rose (faults old) n) (sym now) rose));
}

-- a source on which nothing is done
pub source_same : {S : Type 0} (held : S → List (List ℕ)) (sizes : S → List ℕ) (lowest highest : S → Option Place) (faults : S → ℕ) (source : S) → IsSourceKept held sizes lowest highest faults source source
source_same held sizes lowest highest faults source = record { holds = refl; sized = refl; least = refl; most = refl; later = omega arith }
