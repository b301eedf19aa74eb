-- Facts on the pieces that a text is cut into.
use Rattle.std.proofs.Common.{zero, inl, inr, ◌≢◌, ℕ, Bool, true, false, List, [], ◌∷◌, ◌++◌, ◌≡◌, ◌<◌, ◌≤◌, suc, length, take, drop, get_or, subst, refl, sym, ap, ◌∙◌, drop-cons, take-append-drop, arith}
use Rattle.std.specs.Prelude.{not, ◌==◌}
use Rattle.std.specs.List.{list_all}
use Rattle.std.proofs.lemmas.List.{drop_all, take_all}
use Rattle.std.proofs.lemmas.Bool.{cases_eq, eq-eqb, ne_eqb}
use Rattle.cdc_query.specs.Grammar.{spaces}
use Rattle.cdc_query.specs.Words.{before, since, verb_from, verb_of, verb_with, unspaced}

-- the byte `stop` is nowhere in the text
abbrev pub lacks : ℕ → List ℕ → Bool
lacks stop text = list_all (λ b. not (b == stop)) text

-- the text is empty or begins with the byte `stop`
abbrev pub StopsAt : ℕ → List ℕ → Type 0
StopsAt stop [] = Unit {0}
StopsAt stop (b ∷ rest) = b ≡ stop

pub before-lacks : (stop : ℕ) (word rest : List ℕ) → lacks stop word ≡ true → StopsAt stop rest → before stop (word ++ rest) ≡ word
before-lacks stop [] [] free stops = refl
before-lacks stop [] (b ∷ rest) free stops = grind (arith, stops)
before-lacks stop (b ∷ word) rest free stops =
    let h = before-lacks stop word rest in
    grind (arith, h)

pub since-lacks : (stop : ℕ) (word rest : List ℕ) → lacks stop word ≡ true → StopsAt stop rest → since stop (word ++ rest) ≡ rest
since-lacks stop [] [] free stops = refl
since-lacks stop [] (b ∷ rest) free stops = grind (arith, stops)
since-lacks stop (b ∷ word) rest free stops =
    let h = since-lacks stop word rest in
    grind (arith, h)

-- a text whose first bytes lack the byte `stop`, which comes next, is cut there
pub record CutAt (stop at : ℕ) (text : List ℕ) : Type 0 where
  pub front : before stop text ≡ take at text
  pub rest : since stop text ≡ drop at text

pub cut_at : (stop at : ℕ) (text : List ℕ) → lacks stop (take at text) ≡ true → StopsAt stop (drop at text) → CutAt stop at text
cut_at stop at text free stops =
    let whole : take at text ++ drop at text ≡ text = take-append-drop at text in
    record {
      front = subst (λ (t : List ℕ). before stop t ≡ take at text) whole (before-lacks stop (take at text) (drop at text) free stops);
      rest = subst (λ (t : List ℕ). since stop t ≡ drop at text) whole (since-lacks stop (take at text) (drop at text) free stops);
    }

pub cut_here : (stop at : ℕ) (text : List ℕ) → at < length text → lacks stop (take at text) ≡ true → get_or text at 0 ≡ stop → CutAt stop at text
cut_here stop at text lt free here =
    let e : drop at text ≡ get_or text at 0 ∷ drop (suc at) text = drop-cons text at 0 lt in
    cut_at stop at text free (subst (StopsAt stop) (sym e) here)

pub cut_nowhere : (stop : ℕ) (text : List ℕ) → lacks stop (take (length text) text) ≡ true → CutAt stop (length text) text
cut_nowhere stop text free =
    let e : drop (length text) text ≡ [] = drop_all (length text) text (omega arith) in
    cut_at stop (length text) text free (subst (StopsAt stop) (sym e) tt)

pub cut_behind : (stop at : ℕ) (text : List ℕ) → length text ≤ at → at ≤ length text → lacks stop (take at text) ≡ true → (text ≡ before stop text) × ([] ≡ since stop text)
cut_behind stop at text low high free =
    let e : at ≡ length text = omega arith in
    let cut = cut_nowhere stop text (subst (λ (n : ℕ). lacks stop (take n text) ≡ true) e free) in
    (sym (take_all (length text) text (omega arith)) ∙ sym cut.front, sym (cut.rest ∙ drop_all (length text) text (omega arith)))

-- the text does not begin with a space
abbrev pub IsSolid : List ℕ → Type 0
IsSolid [] = Unit {0}
IsSolid (b ∷ rest) = b ≢ 32

pub unspaced-solid : (text : List ℕ) → IsSolid text → unspaced text ≡ text
unspaced-solid [] solid = refl
unspaced-solid (b ∷ rest) solid = rw (ne_eqb b 32 solid) refl

pub unspaced-spaces : (n : ℕ) (text : List ℕ) → unspaced (spaces n ++ text) ≡ unspaced text
unspaced-spaces zero text = refl
unspaced-spaces (suc n) text = unspaced-spaces n text

pub unspaced-front : (n : ℕ) (text : List ℕ) → IsSolid text → unspaced (spaces n ++ text) ≡ text
unspaced-front n text solid = unspaced-spaces n text ∙ unspaced-solid text solid

pub unspaced-only_spaces : (n : ℕ) → unspaced (spaces n) ≡ []
unspaced-only_spaces zero = refl
unspaced-only_spaces (suc n) = unspaced-only_spaces n

pub stops-spaces : (n : ℕ) → StopsAt 32 (spaces n)
stops-spaces zero = tt
stops-spaces (suc n) = refl

-- a text as spaces, and then what does not begin with one
pub record Front (text rest : List ℕ) : Type 0 where
  pub count : ℕ
  pub whole : text ≡ spaces count ++ rest
  pub solid : IsSolid rest

pub front_of : (text : List ℕ) → Front text (unspaced text)
front_of [] = record { count = 0; whole = refl; solid = tt }
front_of (b ∷ rest) =
    elim (cases_eq b 32) [
      | inl e ↦
          let inner = front_of rest in
          rw e (record { count = suc inner.count; whole = ap (λ (t : List ℕ). 32 ∷ t) inner.whole; solid = inner.solid })
      | inr ne ↦ rw (ne_eqb b 32 ne) (record { count = 0; whole = refl; solid = ne })
    ]

-- a text as what stands before the first byte `stop`, and the rest
pub record Split (stop : ℕ) (text front rest : List ℕ) : Type 0 where
  pub whole : text ≡ front ++ rest
  pub free : lacks stop front ≡ true
  pub stops : StopsAt stop rest

pub split_of : (stop : ℕ) (text : List ℕ) → Split stop text (before stop text) (since stop text)
split_of stop [] = record { whole = refl; free = refl; stops = tt }
split_of stop (b ∷ rest) =
    elim (cases_eq b stop) [
      | inl e ↦
          let test : (b == stop) ≡ true = eq-eqb b stop e in
          rw test (record { whole = refl; free = refl; stops = e })
      | inr ne ↦
          let inner = split_of stop rest in
          let test : (b == stop) ≡ false = ne_eqb b stop ne in
          rw test (record { whole = ap (λ (t : List ℕ). b ∷ t) inner.whole; free = rw test inner.free; stops = inner.stops })
    ]

-- more follows the first word
pub verb_from-more : (word rest : List ℕ) → (length rest == 0) ≡ false → verb_from word rest ≡ verb_with word rest
verb_from-more word [] more = cc more
verb_from-more word (b ∷ rest) more = refl

-- a text that is cut after its first word
pub verb_of-cut : (text front word rest : List ℕ) → front ≡ unspaced text → word ≡ before 32 front → rest ≡ unspaced (since 32 front)
    → verb_from word rest ≡ verb_of text
verb_of-cut text front word rest e w r = cc
