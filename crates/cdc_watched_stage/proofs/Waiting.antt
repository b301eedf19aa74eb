-- The numbers of what waits.
use Rattle.std.proofs.Common.{◌≡◌, ℕ, ◌+◌, ◌≤◌, ◌<◌, List, [], ◌∷◌, ◌++◌, length, refl, sym, ◌∙◌, ap, subst, arith, append_assoc}
use Rattle.std.specs.List.{AllByRecursion}
use Rattle.cdc_model.specs.Records.{OutputUnit}
use Rattle.cdc_watched_stage.specs.Handing.{AreNumbered, StartsBehind}

-- there are as many as counted
pub numbered_length : (from to : ℕ) (units : List OutputUnit) → AreNumbered from units to → from + length units ≡ to
numbered_length from to [] is = let e : from ≡ to = is in omega (arith, e)
numbered_length from to (unit ∷ units) (number, rest) = let more : from + 1 + length units ≡ to = numbered_length (from + 1) to units rest in omega (arith, more)

-- none is between a count and itself
pub numbered_none : (count : ℕ) (units : List OutputUnit) → AreNumbered count units count → units ≡ []
numbered_none count [] is = refl
numbered_none count (unit ∷ units) (number, rest) = absurd (let more : count + 1 + length units ≡ count = numbered_length (count + 1) count units rest in omega (arith, more))

-- those behind a count go on from it
starts_there : (from count to : ℕ) (rest : List OutputUnit) → from ≤ count → count ≤ to → StartsBehind count rest → AreNumbered from rest to → AreNumbered count rest to
starts_there from count to [] low high behind is = let e : from ≡ to = is in let here : count ≡ to = omega (arith, e, low, high) in here
starts_there from count to (unit ∷ units) low high behind (number, more) =
    let e : unit.number ≡ from + 1 = number in
    let b : count < unit.number = behind in
    let here : from ≡ count = omega (arith, e, b, low) in
    subst (λ n. AreNumbered n (unit ∷ units) to) here (number, more)

-- what is left, where those up to a count are gone
pub numbered_rest : (from count to : ℕ) (handed rest : List OutputUnit) → from ≤ count → count ≤ to → AllByRecursion (λ (u : OutputUnit). u.number ≤ count) handed → StartsBehind count rest → AreNumbered from (handed ++ rest) to → AreNumbered count rest to
numbered_rest from count to [] rest low high all behind is = starts_there from count to rest low high behind is
numbered_rest from count to (unit ∷ handed) rest low high (reached, all) behind (number, more) =
    let e : unit.number ≡ from + 1 = number in
    let r : unit.number ≤ count = reached in
    numbered_rest (from + 1) count to handed rest (omega (arith, e, r)) high all behind more

-- one unit more is in front
pub one_more : (waits handed mid rest : List OutputUnit) (unit : OutputUnit) → waits ≡ handed ++ mid → mid ≡ unit ∷ rest → waits ≡ (handed ++ unit ∷ []) ++ rest
one_more waits handed mid rest unit before first = before ∙ ap (λ l. handed ++ l) first ∙ sym (append_assoc handed (unit ∷ []) rest)
