-- Lists that begin with others, and two lists of ascending keys of which one begins the other.
use Rattle.std.proofs.Common.{◌≡◌, ◌⊎◌, inl, inr, List, [], ◌∷◌, ◌++◌, length, length-append, append_assoc, append-nil, map, Contains, ap, sym, subst, refl, ◌∙◌, arith}
use Rattle.std.specs.List.{AllByRecursion, flat_map}
use Rattle.std.specs.List.Sorted.{IsStrictlySortedBy}
use Rattle.std.specs.declared.cmp.Ordering.TheVariants.{Less}
use Rattle.std.proofs.lemmas.List.{map-append, nil_from_length}
use Rattle.std.proofs.lemmas.Grind.{flat_map-append}
use Rattle.cdc_base.specs.declared.key.Key.{Key}
use Rattle.cdc_base.specs.Key.{key_order}
use Rattle.cdc_model.specs.SettledOrder.{IsFront}
use Rattle.cdc_model.proofs.Members.{contains_first, contains_later, contains_none, contains_cases}
use Rattle.cdc_model.proofs.KeyList.{IsBelowAll, not_below_itself, not_both_below, below_member}

pub front_itself : {X : Type 0} (xs : List X) → IsFront xs xs
front_itself xs = record { rest = []; is = sym (append-nil xs) }

pub front_same : {X : Type 0} (xs ys : List X) → xs ≡ ys → IsFront xs ys
front_same xs ys e = subst (IsFront xs) e (front_itself xs)

pub front_on : {X : Type 0} (xs ys zs : List X) → IsFront xs ys → IsFront ys zs → IsFront xs zs
front_on {X} xs ys zs a b = record {
  rest = a.rest ++ b.rest;
  is = b.is ∙ ap (λ (list : List X). list ++ b.rest) a.is ∙ append_assoc xs a.rest b.rest;
}

pub front_map : {X Y : Type 0} (f : X → Y) (xs ys : List X) → IsFront xs ys → IsFront (map f xs) (map f ys)
front_map f xs ys a = record { rest = map f a.rest; is = ap (map f) a.is ∙ map-append f xs a.rest }

pub front_flat_map : {X Y : Type 0} (f : X → List Y) (xs ys : List X) → IsFront xs ys → IsFront (flat_map f xs) (flat_map f ys)
front_flat_map f xs ys a = record { rest = flat_map f a.rest; is = ap (flat_map f) a.is ∙ flat_map-append f xs a.rest }

pub nothing_behind : {X : Type 0} (xs rest : List X) → xs ≡ xs ++ rest → rest ≡ []
nothing_behind xs rest e = nil_from_length rest (omega (arith, ap length e, length-append xs rest))

pub fronts_of_each : {X : Type 0} (xs ys : List X) → IsFront xs ys → IsFront ys xs → xs ≡ ys
fronts_of_each {X} xs ys a b =
    let none : a.rest ≡ [] = nil_from_length a.rest
    (omega (arith, ap length a.is, ap length b.is, length-append xs a.rest, length-append ys b.rest)) in
    sym (a.is ∙ ap (λ (list : List X). xs ++ list) none ∙ append-nil xs)

-- ---- ascending keys

-- a key above each of some keys
abbrev pub IsAboveEach : List Key → Key → Type 0
IsAboveEach keys key = AllByRecursion (λ (other : Key). key_order other key ≡ Less) keys

module _ (x y : Key) (xs ys : List Key) where
  abbrev Among : Type 0
  Among = (k : Key) → Contains (x ∷ xs) k → Contains (y ∷ ys) k

  abbrev OrAbove : Type 0
  OrAbove = (k : Key) → Contains (y ∷ ys) k → Contains (x ∷ xs) k ⊎ IsAboveEach (x ∷ xs) k

  -- their first keys are one
  same_first : IsBelowAll x xs → IsBelowAll y ys → Among → OrAbove → x ≡ y
  same_first below_x below_y among or_above =
      elim (contains_cases y ys x (among x (contains_first x xs))) [
        | inl is ↦ sym is
        | inr later ↦ absurd (none (below_member y ys x below_y later) (or_above y (contains_first y ys)))
      ]
    where
      none : key_order y x ≡ Less → Contains (x ∷ xs) y ⊎ IsAboveEach (x ∷ xs) y → ⊥
      none less (inl within) = at_first (contains_cases x xs y within)
        where
          at_first : (x ≡ y) ⊎ Contains xs y → ⊥
          at_first (inl is) = not_below_itself y (subst (λ (k : Key). key_order y k ≡ Less) is less)
          at_first (inr later) = not_both_below x y (below_member x xs y below_x later) less
      none less (inr above) = not_both_below x y above.0 less

  among_later : IsBelowAll x xs → x ≡ y → Among → (k : Key) → Contains xs k → Contains ys k
  among_later below_x same among k within =
      elim (contains_cases y ys k (among k (contains_later x xs k within))) [
        | inl is ↦
            absurd (not_below_itself k (subst (λ (j : Key). key_order j k ≡ Less) (same ∙ is) (below_member x xs k below_x within)))
        | inr later ↦ later
      ]

  above_later : IsBelowAll y ys → x ≡ y → OrAbove → (k : Key) → Contains ys k → Contains xs k ⊎ IsAboveEach xs k
  above_later below_y same or_above k within =
      elim (or_above k (contains_later y ys k within)) [
        | inl here ↦
            elim (contains_cases x xs k here) [
              | inl is ↦
                  absurd (not_below_itself k (subst (λ (j : Key). key_order j k ≡ Less) (sym same ∙ is) (below_member y ys k below_y within)))
              | inr later ↦ inl later
            ]
        | inr above ↦ inr above.1
      ]

-- of two lists of ascending keys the first is among the second, and each of the second is in the first or above all of it:
-- so the first begins the second
pub ascending_front : (xs ys : List Key) → IsStrictlySortedBy key_order xs → IsStrictlySortedBy key_order ys
    → ((k : Key) → Contains xs k → Contains ys k) → ((k : Key) → Contains ys k → Contains xs k ⊎ IsAboveEach xs k) → IsFront xs ys
unfolding IsStrictlySortedBy
ascending_front [] ys sorted_x sorted_y among or_above = record { rest = ys; is = refl }
ascending_front (x ∷ xs) [] sorted_x sorted_y among or_above = absurd (contains_none x (among x (contains_first x xs)))
ascending_front (x ∷ xs) (y ∷ ys) (below_x, sorted_x) (below_y, sorted_y) among or_above =
    let same = same_first x y xs ys below_x below_y among or_above in
    let later = ascending_front xs ys sorted_x sorted_y (among_later x y xs ys below_x same among) (above_later x y xs ys below_y same or_above) in
    record {
      rest = later.rest;
      is = ap (λ (list : List Key). y ∷ list) later.is ∙ ap (λ (k : Key). k ∷ (xs ++ later.rest)) (sym same);
    }

pub same_keys : (xs ys : List Key) → IsStrictlySortedBy key_order xs → IsStrictlySortedBy key_order ys
    → ((k : Key) → Contains xs k → Contains ys k) → ((k : Key) → Contains ys k → Contains xs k) → xs ≡ ys
same_keys xs ys sorted_x sorted_y forth back =
    fronts_of_each xs ys
    (ascending_front xs ys sorted_x sorted_y forth (λ k within. inl (back k within)))
    (ascending_front ys xs sorted_y sorted_x back (λ k within. inl (forth k within)))
