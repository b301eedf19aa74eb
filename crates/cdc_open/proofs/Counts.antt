-- How often each floor stands among some, as floors come and go.
use Rattle.std.proofs.Common.{◌≡◌, ◌≤◌, ◌<◌, ◌^◌, ℕ, ◌+◌, ◌-◌, min, Bool, true, false, cond, List, [], ◌∷◌, length, Option, Some, None, inl, inr, ap, sym, refl, ◌∙◌, arith}
use Rattle.std.specs.BTreeMap.{is_at}
use Rattle.std.specs.Map.{lookup}
use Rattle.std.specs.Option.{unwrap_or, IsSome}
use Rattle.std.specs.Ordering.{nat_cmp, is_eq, is_gt}
use Rattle.std.specs.declared.cmp.Ordering.{Ordering}
use Rattle.std.specs.declared.cmp.Ordering.TheVariants.{Less, Equal, Greater}
use Rattle.std.proofs.lemmas.Bool.{cases_eq}
use Rattle.std.proofs.lemmas.Bool.Decides.{nat_tests}
use Rattle.std.proofs.lemmas.Map.Keys.{le_from_not_gt}
use Rattle.std.proofs.lemmas.Map.Lookups.{exact_unsigned}
use Rattle.cdc_model.specs.Watermark.{least}
use Rattle.cdc_model.proofs.SameXid.{no_test}
use Rattle.cdc_open.specs.Floors.{times_in, times_told, TellsTimes}

abbrev pub look : ℕ → List (ℕ × ℕ) → Option ℕ
look number counts = lookup (is_at (nat_cmp number)) counts

abbrev one_if : Bool → ℕ
one_if b = cond b 1 0

pub at_itself : (n : ℕ) → is_at (nat_cmp n) n ≡ true
at_itself n = let same : nat_cmp n n ≡ Equal = grind (arith, nat_tests) in ap is_eq same

equal_by : (o : Ordering) → is_eq o ≡ true → o ≡ Equal
equal_by Less e = absurd (no_test e)
equal_by Equal e = refl
equal_by Greater e = absurd (no_test e)

pub at_same : (a b : ℕ) → is_at (nat_cmp a) b ≡ true → a ≡ b
at_same a b e = exact_unsigned a b (equal_by (nat_cmp a b) e)

times_least : (number : ℕ) (floors : List ℕ) → times_in number floors ≤ length floors
times_least number [] = omega arith
times_least number (floor ∷ floors) = by (is_at (nat_cmp floor) number) (times_least number floors)
  where
    by : (b : Bool) → times_in number floors ≤ length floors → cond b 1 0 + times_in number floors ≤ length (floor ∷ floors)
    by true later = omega (arith, later)
    by false later = omega (arith, later)

times_bound : (counts : List (ℕ × ℕ)) (floors : List ℕ) (floor : ℕ) → TellsTimes counts floors → times_told floor counts ≤ length floors
times_bound counts floors floor tells = omega (arith, tells.times floor, times_least floor floors)

-- a floor more
pub added : (old new : List (ℕ × ℕ)) (floor count : ℕ) (floors : List ℕ) → count ≡ times_told floor old + 1
    → ((q : ℕ) → look q new ≡ cond (is_at (nat_cmp floor) q) (Some count) (look q old)) → TellsTimes old floors → TellsTimes new (floor ∷ floors)
added old new floor count floors counted is tells = record {
  times = λ number. ap (λ (o : Option ℕ). unwrap_or o 0) (is number) ∙ times number (is_at (nat_cmp floor) number) refl;
  there = λ number zero. there number (is_at (nat_cmp floor) number) (sym (is number) ∙ zero);
}
  where
    times : (number : ℕ) (b : Bool) → is_at (nat_cmp floor) number ≡ b → unwrap_or (cond b (Some count) (look number old)) 0 ≡ cond b 1 0 + times_in number floors
    times number true e =
        let same : times_in floor floors ≡ times_in number floors = ap (λ (n : ℕ). times_in n floors) (at_same floor number e) in
        omega (arith, counted, tells.times floor, same)
    times number false e = omega (arith, tells.times number)

    there : (number : ℕ) (b : Bool) → cond b (Some count) (look number old) ≡ Some 0 → ⊥
    there number true e = let none : count ≡ 0 = cc in omega (arith, none, counted)
    there number false e = tells.there number e

pub added_within : (old new : List (ℕ × ℕ)) (floor told count : ℕ) (floors : List ℕ) → told ≡ times_told floor old → count ≡ min (told + 1) (2 ^ 64 - 1)
    → ((q : ℕ) → look q new ≡ cond (is_at (nat_cmp floor) q) (Some count) (look q old)) → length floors + 1 < 2 ^ 64 → TellsTimes old floors → TellsTimes new (floor ∷ floors)
added_within old new floor told count floors told_is count_is is room tells =
    added old new floor count floors (omega (arith, told_is, count_is, room, times_bound old floors floor tells)) is tells

-- a floor less
taken : (old new : List (ℕ × ℕ)) (floor : ℕ) (left : Option ℕ) (floors : List ℕ) → unwrap_or left 0 + 1 ≡ times_told floor old → (left ≡ Some 0 → ⊥)
    → ((q : ℕ) → look q new ≡ cond (is_at (nat_cmp floor) q) left (look q old)) → TellsTimes old (floor ∷ floors) → TellsTimes new floors
taken old new floor left floors counted some is tells = record {
  times = λ number. ap (λ (o : Option ℕ). unwrap_or o 0) (is number) ∙ times number (is_at (nat_cmp floor) number) refl (tells.times number);
  there = λ number zero. there number (is_at (nat_cmp floor) number) (sym (is number) ∙ zero);
}
  where
    times : (number : ℕ) (b : Bool) → is_at (nat_cmp floor) number ≡ b → times_told number old ≡ cond (is_at (nat_cmp floor) number) 1 0 + times_in number floors
        → unwrap_or (cond b left (look number old)) 0 ≡ times_in number floors
    times number true e told =
        let one : one_if (is_at (nat_cmp floor) number) ≡ 1 = ap one_if e in
        let same : times_told floor old ≡ times_told number old = ap (λ (n : ℕ). times_told n old) (at_same floor number e) in
        omega (arith, counted, told, same, one)
    times number false e told =
        let none : one_if (is_at (nat_cmp floor) number) ≡ 0 = ap one_if e in
        omega (arith, told, none)

    there : (number : ℕ) (b : Bool) → cond b left (look number old) ≡ Some 0 → ⊥
    there number true e = some e
    there number false e = tells.there number e

first_told : (old : List (ℕ × ℕ)) (floor : ℕ) (floors : List ℕ) → TellsTimes old (floor ∷ floors) → times_told floor old ≡ 1 + times_in floor floors
first_told old floor floors tells =
    let one : one_if (is_at (nat_cmp floor) floor) ≡ 1 = ap one_if (at_itself floor) in
    omega (arith, tells.times floor, one)

pub taken_out : (old new : List (ℕ × ℕ)) (floor told : ℕ) (floors : List ℕ) → told ≡ times_told floor old → told ≤ 1
    → ((q : ℕ) → look q new ≡ cond (is_at (nat_cmp floor) q) None (look q old)) → TellsTimes old (floor ∷ floors) → TellsTimes new floors
taken_out old new floor told floors told_is few is tells =
    taken old new floor None floors (omega (arith, told_is, few, first_told old floor floors tells)) (λ e. cc) is tells

pub taken_one : (old new : List (ℕ × ℕ)) (floor told : ℕ) (floors : List ℕ) → told ≡ times_told floor old → 1 < told
    → ((q : ℕ) → look q new ≡ cond (is_at (nat_cmp floor) q) (Some (told - 1)) (look q old)) → TellsTimes old (floor ∷ floors) → TellsTimes new floors
taken_one old new floor told floors told_is more is tells =
    taken old new floor (Some (told - 1)) floors (omega (arith, told_is, more)) (λ e. let none : told - 1 ≡ 0 = cc in omega (arith, none, more)) is tells

-- what is told to stand there more than once is found
pub found_more : (counts : List (ℕ × ℕ)) (floor told : ℕ) → told ≡ times_told floor counts → 1 < told → look floor counts ≡ None → ⊥
found_more counts floor told told_is more none =
    let zero : times_told floor counts ≡ 0 = ap (λ (o : Option ℕ). unwrap_or o 0) none in
    omega (arith, told_is, more, zero)

-- other floors that stand there as often
pub tells_same : (counts : List (ℕ × ℕ)) (xs ys : List ℕ) → ((number : ℕ) → times_in number xs ≡ times_in number ys) → TellsTimes counts xs → TellsTimes counts ys
tells_same counts xs ys same tells = record {
  times = λ number. tells.times number ∙ same number;
  there = tells.there;
}

-- ---- the least

-- a mark that is at most each of some numbers stays
least_stays : (mark : ℕ) (floors : List ℕ) → ((number : ℕ) → 1 ≤ times_in number floors → mark ≤ number) → least mark floors ≡ mark
least_stays mark [] all = refl
least_stays mark (floor ∷ floors) all =
    let one : one_if (is_at (nat_cmp floor) floor) ≡ 1 = ap one_if (at_itself floor) in
    let low : mark ≤ floor = all floor (omega (arith, one)) in
    let stays : min mark floor ≡ mark = omega (arith, low) in
    ap (λ (m : ℕ). least m floors) stays ∙ least_stays mark floors (λ number h. all number (more number (is_at (nat_cmp floor) number) h))
  where
    more : (number : ℕ) (b : Bool) → 1 ≤ times_in number floors → 1 ≤ cond b 1 0 + times_in number floors
    more number true h = omega (arith, h)
    more number false h = omega (arith, h)

least_is : (mark low : ℕ) (floors : List ℕ) → ((number : ℕ) → 1 ≤ times_in number floors → low ≤ number) → 1 ≤ times_in low floors → least mark floors ≡ min mark low
least_is mark low [] all there = absurd (omega (arith, there))
least_is mark low (floor ∷ floors) all there =
    by (is_at (nat_cmp floor) low) refl there (λ h. least_is (min mark floor) low floors (λ number later. rest number (is_at (nat_cmp floor) number) later (all number)) h)
  where
    rest : (number : ℕ) (b : Bool) → 1 ≤ times_in number floors → (1 ≤ cond b 1 0 + times_in number floors → low ≤ number) → low ≤ number
    rest number true h all = all (omega (arith, h))
    rest number false h all = all (omega (arith, h))

    by : (b : Bool) → is_at (nat_cmp floor) low ≡ b → 1 ≤ cond b 1 0 + times_in low floors → (1 ≤ times_in low floors → least (min mark floor) floors ≡ min (min mark floor) low)
        → least (min mark floor) floors ≡ min mark low
    by true e h later =
        let same : floor ≡ low = at_same floor low e in
        let stays : least (min mark floor) floors ≡ min mark floor =
        least_stays (min mark floor) floors
        (λ number there. let least_low : low ≤ number = rest number (is_at (nat_cmp floor) number) there (all number) in omega (arith, least_low, same)) in
        omega (arith, stays, same)
    by false e h later =
        let one : one_if (is_at (nat_cmp floor) floor) ≡ 1 = ap one_if (at_itself floor) in
        let low_first : low ≤ floor = all floor (omega (arith, one)) in
        let found : least (min mark floor) floors ≡ min (min mark floor) low = later (omega (arith, h)) in
        omega (arith, found, low_first)

told_some : (found : Option ℕ) → 1 ≤ unwrap_or found 0 → IsSome found
told_some None h = absurd (omega (arith, h))
told_some (Some n) h = refl

pub least_first : (counts : List (ℕ × ℕ)) (mark low times : ℕ) (floors : List ℕ) → look low counts ≡ Some times → ((q : ℕ) → IsSome (look q counts) → is_gt (nat_cmp low q) ≡ false)
    → TellsTimes counts floors → min mark low ≡ least mark floors
least_first counts mark low times floors found first tells =
    sym (least_is mark low floors
    (λ number there. le_from_not_gt low number (first number (told_some (look number counts) (omega (arith, there, tells.times number)))))
    (let told : times_told low counts ≡ times = ap (λ (o : Option ℕ). unwrap_or o 0) found in
    let some : 1 ≤ times = positive times found in
    omega (arith, told, some, tells.times low)))
  where
    positive : (n : ℕ) → look low counts ≡ Some n → 1 ≤ n
    positive n is = elim (cases_eq n 0) [
      | inl zero ↦ absurd (tells.there low (is ∙ ap (λ (m : ℕ). Some m) zero))
      | inr not ↦ omega (arith, not)
    ]

none_in : (floors : List ℕ) → ((number : ℕ) → times_in number floors ≡ 0) → floors ≡ []
none_in [] none = refl
none_in (floor ∷ floors) none =
    let one : one_if (is_at (nat_cmp floor) floor) ≡ 1 = ap one_if (at_itself floor) in
    absurd (omega (arith, none floor, one))

pub least_none : (counts : List (ℕ × ℕ)) (mark : ℕ) (floors : List ℕ) → counts ≡ [] → TellsTimes counts floors → mark ≡ least mark floors
least_none counts mark floors empty tells =
    ap (least mark) (sym (none_in floors (λ number. sym (tells.times number) ∙ ap (times_told number) empty)))

pub empty_of : {X : Type 0} (xs : List X) → (0 < length xs → ⊥) → xs ≡ []
empty_of [] never = refl
empty_of (x ∷ xs) never = absurd (never (omega arith))
