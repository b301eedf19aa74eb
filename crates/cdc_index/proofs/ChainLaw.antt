-- A chain is its events, and nothing else.
use Rattle.std.proofs.Common.{◌≡◌, ℕ, zero, suc, ◌+◌, ◌≤◌, ◌⊎◌, List, [], ◌∷◌, ◌++◌, length, take, drop, refl, sym, ◌∙◌, ap, subst, inl, inr, arith, length-append, length-drop, append-nil}
use Rattle.std.specs.Prelude.{Bool, true, false, nat_le, ◌&&◌}
use Rattle.std.specs.List.{AllByRecursion, concat}
use Rattle.std.proofs.lemmas.Bool.{leb-true}
use Rattle.std.proofs.lemmas.List.{take-append-drop, take-append-le, drop-append-le}
use Rattle.std.proofs.Math.Seq.{take-append-add, drop-append-add}
use Rattle.cdc_event.specs.Number.{number_of}
use Rattle.cdc_index.specs.Chain.{told_length, begins_event, is_chain, chained_events}
use Rattle.cdc_index.specs.Laws.{IsSized, ChainIsExact}
use Rattle.cdc_index.proofs.ChainLemmas.{event_steps, chain_ends, no_event}
use Rattle.cdc_index.proofs.Windows.{inside}

-- the length of an event stands in its first bytes
told_front : (event rest : List ℕ) → 19 ≤ length event → told_length (event ++ rest) ≡ told_length event
told_front event rest h =
    ap (λ l. number_of (take 4 l)) (drop-append-le 9 event rest (omega (arith, h)))
    ∙ ap number_of (take-append-le 4 (drop 9 event) rest (let less = length-drop 9 event in omega (arith, h, less)))

-- events one behind another are read as they are
pub read_all : (events : List (List ℕ)) → AllByRecursion IsSized events → (is_chain (concat events) ≡ true) × (chained_events (concat events) ≡ events)
read_all [] all = chain_ends [] refl
read_all (event ∷ events) all =
    let sized : IsSized event = all.0 in
    let bytes : List ℕ = event ++ concat events in
    let sum = length-append event (concat events) in
    let s = event_steps bytes (length event) (sym sized.told ∙ sym (told_front event (concat events) sized.header)) sized.header (omega (arith, sum)) in
    let none : length event ≡ length event + 0 = omega arith in
    let behind : drop (length event) bytes ≡ concat events = ap (λ n. drop n bytes) none ∙ drop-append-add event (concat events) 0 in
    let front : take (length event) bytes ≡ event = ap (λ n. take n bytes) none ∙ take-append-add event (concat events) 0 ∙ append-nil event in
    let rest = read_all events all.1 in (
      s.chain ∙ ap is_chain behind ∙ rest.0,
      s.events ∙ (λ i. front i ∷ (ap chained_events behind ∙ rest.1) i),
    )

both : (b c : Bool) → (b && c) ≡ true → (b ≡ true) × (c ≡ true)
both true c e = (refl, e)
both false c e = absurd (let h = e in cc)

begun : (b : Bool) → (b ≡ true) ⊎ (b ≡ false)
begun true = inl refl
begun false = inr refl

-- a chain of at most so many bytes is its events
whole_by : (most : ℕ) (bytes : List ℕ) → length bytes ≤ most → is_chain bytes ≡ true → AllByRecursion IsSized (chained_events bytes) × (bytes ≡ concat (chained_events bytes))
whole_by most [] h e = let none = chain_ends [] refl in subst (λ events. AllByRecursion IsSized events × ([] ≡ concat events)) (sym none.1) (tt, refl)
whole_by zero (byte ∷ bytes) h e = absurd (omega (arith, h))
whole_by (suc most) (byte ∷ bytes) h e = elim (begun (begins_event (byte ∷ bytes))) [
  | inr test ↦ absurd (let stops = no_event (byte ∷ bytes) (omega arith) test in let a = e in cc)
  | inl test ↦
      let all : List ℕ = byte ∷ bytes in
      let size : ℕ = told_length all in
      let tests = both (nat_le 19 size) (nat_le size (length all)) test in
      let least = leb-true 19 size tests.0 in
      let within = leb-true size (length all) tests.1 in
      let s = event_steps all size refl least within in
      let less = length-drop size all in
      let rest = whole_by most (drop size all) (omega (arith, less, h, least)) (sym s.chain ∙ e) in
      let header : 19 ≤ length (take size all) = (let sized = s.sized in omega (arith, sized, least)) in
      let told : told_length (take size all) ≡ length (take size all) =
      ap number_of (inside 9 size all (omega (arith, least))) ∙ sym s.sized in
      subst (λ events. AllByRecursion IsSized events × (all ≡ concat events)) (sym s.events)
      ((record { header = header; told = told }, rest.0), sym (take-append-drop size all) ∙ ap (λ l. take size all ++ l) rest.1)
]

pub chain_law : ChainIsExact
chain_law = record { whole = λ bytes e. whole_by (length bytes) bytes (omega arith) e; read = read_all }
