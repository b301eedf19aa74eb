-- How the events of a file are walked over one by one.
use Rattle.std.proofs.Common.{◌≡◌, ℕ, zero, suc, ◌+◌, ◌-◌, ◌<◌, ◌≤◌, List, [], ◌∷◌, length, take, drop, refl, sym, ◌∙◌, ap, subst, arith, length-drop, length-take}
use Rattle.std.specs.Prelude.{Bool, true, false, ◌&&◌, ◌||◌, ◌==◌, nat_le, if◌then◌else◌, Ok, Err}
use Rattle.std.proofs.lemmas.Bool.{le-leb, leb-true}
use Rattle.std.proofs.lemmas.List.{drop-drop, drop-take, length-take-le}
use Rattle.cdc_index.specs.Chain.{told_length, begins_event, is_chain_behind, events_behind, is_chain, chained_events, ends_at}
use Rattle.cdc_index.specs.declared.shelf_fault.ShelfFault.{ShelfFault}
use Rattle.cdc_index.specs.declared.shelf_fault.ShelfFault.TheVariants.{DiskFault, Torn}
use Rattle.cdc_index.specs.Shelf.{TellsEnds, TellsEvent}

pub chain_skips : (more : ℕ) (bytes : List ℕ) → more ≤ length bytes → is_chain_behind more bytes ≡ is_chain (drop more bytes)
unfolding is_chain_behind
chain_skips zero bytes h = refl
chain_skips (suc more) [] h = absurd (omega (arith, h))
chain_skips (suc more) (byte ∷ bytes) h = chain_skips more bytes (omega (arith, h))

pub events_skip : (more : ℕ) (bytes : List ℕ) → more ≤ length bytes → events_behind more bytes ≡ chained_events (drop more bytes)
unfolding events_behind
events_skip zero bytes h = refl
events_skip (suc more) [] h = absurd (omega (arith, h))
events_skip (suc more) (byte ∷ bytes) h = events_skip more bytes (omega (arith, h))

-- a whole event stands at the front
pub record Steps (bytes : List ℕ) (size : ℕ) : Type 0 where
  pub chain : is_chain bytes ≡ is_chain (drop size bytes)
  pub events : chained_events bytes ≡ take size bytes ∷ chained_events (drop size bytes)
  pub sized : length (take size bytes) ≡ size

-- a test that passes leaves the other
passed : (b c : Bool) → b ≡ true → (b && c) ≡ c
passed true c e = refl
passed false c e = absurd (let h = e in cc)

chosen : {X : Type 0} (b : Bool) (x y : X) → b ≡ true → (if b then x else y) ≡ x
chosen true x y e = refl
chosen false x y e = absurd (let h = e in cc)

left_out : {X : Type 0} (b : Bool) (x y : X) → b ≡ false → (if b then x else y) ≡ y
left_out false x y e = refl
left_out true x y e = absurd (let h = e in cc)

failed : (b c : Bool) → b ≡ false → (b && c) ≡ false
failed false c e = refl
failed true c e = absurd (let h = e in cc)

begins : (bytes : List ℕ) (size : ℕ) → size ≡ told_length bytes → 19 ≤ size → size ≤ length bytes → begins_event bytes ≡ true
begins bytes size e least most =
    let low : nat_le 19 (told_length bytes) ≡ true = le-leb 19 (told_length bytes) (omega (arith, e, least)) in
    let high : nat_le (told_length bytes) (length bytes) ≡ true = le-leb (told_length bytes) (length bytes) (omega (arith, e, most)) in
    passed (nat_le 19 (told_length bytes)) _ low ∙ high

pub event_steps : (bytes : List ℕ) (size : ℕ) → size ≡ told_length bytes → 19 ≤ size → size ≤ length bytes → Steps bytes size
unfolding is_chain_behind events_behind
event_steps [] size e least most = absurd (omega (arith, least, most))
event_steps (byte ∷ bytes) zero e least most = absurd (omega (arith, least))
event_steps (byte ∷ bytes) (suc more) e least most =
    let test : begins_event (byte ∷ bytes) ≡ true = begins (byte ∷ bytes) (suc more) e least most in
    let less : told_length (byte ∷ bytes) - 1 ≡ more = omega (arith, e) in
    let within : more ≤ length bytes = omega (arith, most) in
    record {
      chain = passed (begins_event (byte ∷ bytes)) _ test ∙ ap (λ n. is_chain_behind n bytes) less ∙ chain_skips more bytes within;
      events = chosen (begins_event (byte ∷ bytes)) _ [] test
          ∙ ap (λ n. take n (byte ∷ bytes) ∷ events_behind (told_length (byte ∷ bytes) - 1) bytes) (sym e)
          ∙ ap (λ n. take (suc more) (byte ∷ bytes) ∷ events_behind n bytes) less
          ∙ ap (λ events. take (suc more) (byte ∷ bytes) ∷ events) (events_skip more bytes within);
      sized = length-take-le (suc more) (byte ∷ bytes) most;
    }

-- where some bytes are no event, they are no chain, and no event is at their front
pub no_event : (bytes : List ℕ) → 0 < length bytes → begins_event bytes ≡ false → is_chain bytes ≡ false
unfolding is_chain_behind
no_event [] some e = absurd (omega (arith, some))
no_event (byte ∷ bytes) some e = failed (begins_event (byte ∷ bytes)) _ e

pub no_events : (bytes : List ℕ) → begins_event bytes ≡ false → chained_events bytes ≡ []
unfolding events_behind
no_events [] e = refl
no_events (byte ∷ bytes) e = left_out (begins_event (byte ∷ bytes)) _ [] e

not_both : (b c : Bool) → ((b ≡ true) → (c ≡ true) → ⊥) → (b && c) ≡ false
not_both true true h = absurd (h refl refl)
not_both true false h = refl
not_both false c h = refl

-- the length is no event's, or the bytes end before
pub misfits : (bytes : List ℕ) (size : ℕ) → size ≡ told_length bytes → (19 ≤ size → size ≤ length bytes → ⊥) → begins_event bytes ≡ false
misfits bytes size e h = not_both _ _ (λ low high.
    h (let l = leb-true 19 (told_length bytes) low in omega (arith, e, l)) (let m = leb-true (told_length bytes) (length bytes) high in omega (arith, e, m)))

-- no header is there
pub too_short : (bytes : List ℕ) → length bytes < 19 → begins_event bytes ≡ false
too_short bytes h = misfits bytes (told_length bytes) refl (λ low high. omega (arith, low, high, h))

-- no byte is left
pub chain_ends : (bytes : List ℕ) → length bytes ≡ 0 → (is_chain bytes ≡ true) × (chained_events bytes ≡ [])
unfolding is_chain_behind events_behind
chain_ends [] h = (refl, refl)
chain_ends (byte ∷ bytes) h = absurd (omega (arith, h))

-- ---- the walk

-- up to a place, the walk over a file has found whether a place is a boundary
pub record Walked (bytes : List ℕ) (at place : ℕ) (found : Bool) : Type 0 where
  pub chain : is_chain (drop 4 bytes) ≡ is_chain (drop place bytes)
  pub ends : ((at == 4) || ends_at at 4 (chained_events (drop 4 bytes))) ≡ (found || ends_at at place (chained_events (drop place bytes)))

pub walk_starts : (bytes : List ℕ) (at : ℕ) → Walked bytes at 4 (at == 4)
walk_starts bytes at = record { chain = refl; ends = refl }

or_assoc : (a b c : Bool) → (a || (b || c)) ≡ ((a || b) || c)
or_assoc true b c = refl
or_assoc false b c = refl

pub walk_steps : (bytes : List ℕ) (at place size : ℕ) (found : Bool) → Walked bytes at place found → size ≡ told_length (drop place bytes) → 19 ≤ size → size ≤ length (drop place bytes)
    → Walked bytes at (place + size) (found || (place + size == at))
walk_steps bytes at place size found w e least most =
    let s = event_steps (drop place bytes) size e least most in
    let on : drop size (drop place bytes) ≡ drop (place + size) bytes = drop-drop size place bytes in
    let place_is : place + length (take size (drop place bytes)) ≡ place + size = ap (λ n. place + n) s.sized in
    record {
      chain = w.chain ∙ s.chain ∙ ap is_chain on;
      ends = w.ends ∙ ap (λ events. found || ends_at at place events) s.events
          ∙ ap (λ n. found || ((n == at) || ends_at at n (chained_events (drop size (drop place bytes))))) place_is
          ∙ or_assoc found (place + size == at) _
          ∙ ap (λ l. (found || (place + size == at)) || ends_at at (place + size) (chained_events l)) on;
    }

or_false : (b : Bool) → (b || false) ≡ b
or_false true = refl
or_false false = refl

pub walk_ends : (bytes : List ℕ) (at place : ℕ) (found : Bool) → Walked bytes at place found → length bytes ≤ place
    → (is_chain (drop 4 bytes) ≡ true) × (found ≡ ((at == 4) || ends_at at 4 (chained_events (drop 4 bytes))))
walk_ends bytes at place found w over =
    let less = length-drop place bytes in
    let none = chain_ends (drop place bytes) (omega (arith, less, over)) in
    (w.chain ∙ none.0, sym (w.ends ∙ ap (λ events. found || ends_at at place events) none.1 ∙ or_false found))

-- what is left of a file's front
left_of : (file : List ℕ) (limit place : ℕ) → place ≤ limit → drop place (take limit file) ≡ take (limit - place) (drop place file)
left_of file limit place h =
    let more : limit ≡ place + (limit - place) = omega (arith, h) in
    ap (λ n. drop place (take n file)) more ∙ drop-take place (limit - place) file

-- one event more of a file's front
pub walk_on : (file : List ℕ) (limit at place size : ℕ) (found now : Bool) → place ≤ limit → Walked (take limit file) at place found
    → TellsEvent (take (limit - place) (drop place file)) (Ok size) → now ≡ (found || (place + size == at)) → Walked (take limit file) at (place + size) now
walk_on file limit at place size found now h w t e =
    let left = left_of file limit place h in
    subst (λ b. Walked (take limit file) at (place + size) b) (sym e)
    (walk_steps (take limit file) at place size found w (t.0 ∙ ap told_length (sym left)) t.1 (subst (λ l. size ≤ length l) (sym left) t.2))

-- the walk came upon bytes that are no whole event
pub walk_stops : (file : List ℕ) (limit at place : ℕ) (found : Bool) (fault : ShelfFault) → place < limit → limit ≤ length file → Walked (take limit file) at place found
    → TellsEvent (take (limit - place) (drop place file)) (Err fault) → TellsEnds (take limit file) at (Err fault)
walk_stops file limit at place found Torn more within w t =
    let left = left_of file limit place (omega (arith, more)) in
    let all = length-take limit file in
    let less = length-drop place (take limit file) in
    w.chain ∙ no_event (drop place (take limit file)) (omega (arith, all, less, more, within)) (ap begins_event left ∙ t)
walk_stops file limit at place found DiskFault more within w t = tt

-- the walk is over
pub walk_done : (file : List ℕ) (limit at place : ℕ) (found : Bool) → limit ≤ place → Walked (take limit file) at place found → TellsEnds (take limit file) at (Ok found)
walk_done file limit at place found over w =
    let all = length-take limit file in
    walk_ends (take limit file) at place found w (omega (arith, all, over))
