-- A list of keys in order, and one key more at its place.
use Rattle.std.proofs.Common.{◌≡◌, ◌⊎◌, inl, inr, List, [], ◌∷◌, Contains, ap, sym, refl, subst, ◌∙◌}
use Rattle.std.specs.List.{AllByRecursion}
use Rattle.std.specs.List.Sorted.{IsStrictlySortedBy}
use Rattle.std.specs.Ordering.{ordering_reverse}
use Rattle.std.specs.declared.cmp.Ordering.{Ordering}
use Rattle.std.specs.declared.cmp.Ordering.TheVariants.{Less, Equal, Greater}
use Rattle.cdc_base.specs.declared.key.Key.{Key}
use Rattle.cdc_base.specs.Key.{key_order}
use Rattle.cdc_base.proofs.KeyOrder.{key_order_total, same_key}
use Rattle.cdc_model.specs.Transaction.{placed_key, put}
use Rattle.cdc_model.proofs.Members.{contains_first, contains_later, contains_none, contains_cases}

-- a key is below each of some keys
abbrev pub IsBelowAll : Key → List Key → Type 0
IsBelowAll key keys = AllByRecursion (λ other. key_order key other ≡ Less) keys

-- ---- the order, one way and back

pub above : (key other : Key) → key_order key other ≡ Greater → key_order other key ≡ Less
above key other is = key_order_total.antisymm other key ∙ ap ordering_reverse is

pub not_below_itself : (key : Key) → key_order key key ≡ Less → ⊥
not_below_itself key is = let back : Less ≡ Greater = sym is ∙ key_order_total.antisymm key key ∙ ap ordering_reverse is in cc

pub not_both_below : (key other : Key) → key_order key other ≡ Less → key_order other key ≡ Less → ⊥
not_both_below key other is back = not_below_itself key (key_order_total.trans key other key is back)

pub below_later : (key first : Key) (keys : List Key) → key_order key first ≡ Less → IsBelowAll first keys → IsBelowAll key keys
below_later key first [] is all = tt
below_later key first (other ∷ keys) is (below, all) = (key_order_total.trans key first other is below, below_later key first keys is all)

pub below_member : (key : Key) (keys : List Key) (other : Key) → IsBelowAll key keys → Contains keys other → key_order key other ≡ Less
below_member key [] other all within = absurd (contains_none other within)
below_member key (first ∷ keys) other (below, all) within =
    elim (contains_cases first keys other within) [
      | inl is ↦ subst (λ k. key_order key k ≡ Less) is below
      | inr later ↦ below_member key keys other all later
    ]

-- ---- the order is kept

pub below_placed : (order : Ordering) (low key first : Key) (rest later : List Key) → key_order low key ≡ Less → IsBelowAll low (first ∷ rest)
    → IsBelowAll low later → IsBelowAll low (placed_key order key first rest later)
below_placed Less low key first rest later is (below, all) behind = (is, (below, all))
below_placed Equal low key first rest later is (below, all) behind = (below, all)
below_placed Greater low key first rest later is (below, all) behind = (below, behind)

pub below_put : (low key : Key) (keys : List Key) → key_order low key ≡ Less → IsBelowAll low keys → IsBelowAll low (put key keys)
below_put low key [] is all = (is, tt)
below_put low key (first ∷ rest) is (below, all) =
    below_placed (key_order key first) low key first rest (put key rest) is (below, all) (below_put low key rest is all)

pub sorted_placed : (order : Ordering) (key first : Key) (rest : List Key) → key_order key first ≡ order → IsBelowAll first rest
    → IsStrictlySortedBy key_order rest → IsStrictlySortedBy key_order (put key rest) → IsStrictlySortedBy key_order (placed_key order key first rest (put key rest))
unfolding IsStrictlySortedBy
sorted_placed Less key first rest is all sorted later = ((is, below_later key first rest is all), (all, sorted))
sorted_placed Equal key first rest is all sorted later = (all, sorted)
sorted_placed Greater key first rest is all sorted later = (below_put first key rest (above key first is) all, later)

pub sorted_put : (key : Key) (keys : List Key) → IsStrictlySortedBy key_order keys → IsStrictlySortedBy key_order (put key keys)
unfolding IsStrictlySortedBy
sorted_put key [] sorted = (tt, tt)
sorted_put key (first ∷ rest) (all, sorted) =
    sorted_placed (key_order key first) key first rest refl all sorted (sorted_put key rest sorted)

-- ---- the members: the key and those of before

pub in_placed : (order : Ordering) (key first : Key) (rest later : List Key) (other : Key)
    → (Contains later other → (key ≡ other) ⊎ Contains rest other)
    → Contains (placed_key order key first rest later) other → (key ≡ other) ⊎ Contains (first ∷ rest) other
in_placed Less key first rest later other behind within = contains_cases key (first ∷ rest) other within
in_placed Equal key first rest later other behind within = inr within
in_placed Greater key first rest later other behind within =
    elim (contains_cases first later other within) [
      | inl is ↦ inr (subst (Contains (first ∷ rest)) is (contains_first first rest))
      | inr further ↦
          elim (behind further) [ inl is ↦ inl is | inr within ↦ inr (contains_later first rest other within) ]
    ]

pub in_put : (key : Key) (keys : List Key) (other : Key) → Contains (put key keys) other → (key ≡ other) ⊎ Contains keys other
in_put key [] other within = contains_cases key [] other within
in_put key (first ∷ rest) other within =
    in_placed (key_order key first) key first rest (put key rest) other (in_put key rest other) within

pub placed_itself : (order : Ordering) (key first : Key) (rest later : List Key) → key_order key first ≡ order
    → Contains later key → Contains (placed_key order key first rest later) key
placed_itself Less key first rest later is behind = contains_first key (first ∷ rest)
placed_itself Equal key first rest later is behind =
    subst (λ k. Contains (first ∷ rest) k) (sym (same_key key first is)) (contains_first first rest)
placed_itself Greater key first rest later is behind = contains_later first later key behind

pub put_itself : (key : Key) (keys : List Key) → Contains (put key keys) key
put_itself key [] = contains_first key []
put_itself key (first ∷ rest) = placed_itself (key_order key first) key first rest (put key rest) refl (put_itself key rest)

pub placed_other : (order : Ordering) (key first : Key) (rest later : List Key) (other : Key) → (Contains rest other → Contains later other)
    → Contains (first ∷ rest) other → Contains (placed_key order key first rest later) other
placed_other Less key first rest later other behind within = contains_later key (first ∷ rest) other within
placed_other Equal key first rest later other behind within = within
placed_other Greater key first rest later other behind within =
    elim (contains_cases first rest other within) [
      | inl is ↦ subst (Contains (first ∷ later)) is (contains_first first later)
      | inr further ↦ contains_later first later other (behind further)
    ]

pub put_other : (key : Key) (keys : List Key) (other : Key) → Contains keys other → Contains (put key keys) other
put_other key [] other within = contains_later key [] other within
put_other key (first ∷ rest) other within =
    placed_other (key_order key first) key first rest (put key rest) other (put_other key rest other) within
