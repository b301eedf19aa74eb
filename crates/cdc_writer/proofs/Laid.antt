-- Events that are laid one behind another: what is written so far, and what is left.
use Rattle.std.proofs.Common.{◌≡◌, ℕ, zero, suc, ◌+◌, ◌<◌, ◌≤◌, List, [], ◌∷◌, ◌++◌, length, take, drop, get_or, refl, ap, sym, subst, ◌∙◌, arith, length-append, append_assoc, append-nil, add-one, Result, Ok, Err, OnOk}
use Rattle.std.proofs.lemmas.List.{length-take, take-append-le}
use Rattle.std.proofs.lemmas.List.Sums.{sum_by-cons, sum_by-append}
use Rattle.std.proofs.Math.Seq.{drop-cons, take-length}
use Rattle.cdc_model.specs.Records.{Row}
use Rattle.cdc_model.specs.Print.{row_length, printed_event, laid}
use Rattle.cdc_writer.specs.Events.{events_length}
use Rattle.cdc_writer.proofs.Bodies.{printed_size}

-- an item of a list is the first of what is left
pub item_first : {X : Type 0} (xs : List X) (i : ℕ) (item : X) → i < length xs → item ≡ get_or xs i item → drop i xs ≡ item ∷ drop (i + 1) xs
item_first xs i item lt e = rw (add-one, drop-cons xs i item lt, ← e) refl

pub none_left : {X : Type 0} (xs : List X) (i : ℕ) → length xs ≤ i → drop i xs ≡ []
none_left [] zero le = refl
none_left [] (suc i) le = refl
none_left (x ∷ xs) zero le = absurd (omega arith)
none_left (x ∷ xs) (suc i) le = none_left xs i (omega arith)

-- events behind others
pub laid_append : (at seconds : ℕ) (xs ys : List Row) → laid at seconds (xs ++ ys) ≡ laid at seconds xs ++ laid (at + events_length xs) seconds ys
laid_append at seconds [] ys = let e : at + 0 ≡ at = omega arith in rw e refl
laid_append at seconds (x ∷ xs) ys =
    let e : at + row_length x + events_length xs ≡ at + events_length (x ∷ xs) = omega (arith, sum_by-cons row_length x xs) in
    rw (laid_append (at + row_length x) seconds xs ys, e) (sym (append_assoc (printed_event at seconds x) (laid (at + row_length x) seconds xs) (laid (at + events_length (x ∷ xs)) seconds ys)))

-- laid events have their lengths
pub laid_size : (at seconds : ℕ) (events : List Row) → length (laid at seconds events) ≡ events_length events
laid_size at seconds [] = refl
laid_size at seconds (x ∷ xs) =
    let here : length (printed_event at seconds x) ≡ row_length x = printed_size at seconds x in
    let rest : length (laid (at + row_length x) seconds xs) ≡ events_length xs = laid_size (at + row_length x) seconds xs in
    omega (arith, length-append (printed_event at seconds x) (laid (at + row_length x) seconds xs), sum_by-cons row_length x xs)

-- of all events some are written, up to a place, and the rest is left
pub record Left (before into : List ℕ) (start at seconds : ℕ) (all rest : List Row) : Type 0 where
  pub ends : at + events_length rest ≡ start + events_length all
  pub bytes : into ++ laid at seconds rest ≡ before ++ laid start seconds all
  pub kept : take (length before) into ≡ before

kept_longer : (before into : List ℕ) → take (length before) into ≡ before → length before ≤ length into
kept_longer before into kept = omega (arith, ap length kept, length-take (length before) into)

take_twice : (n m : ℕ) (xs : List ℕ) → n ≤ m → take n (take m xs) ≡ take n xs
take_twice zero m xs le = refl
take_twice (suc n) zero xs le = absurd (omega arith)
take_twice (suc n) (suc m) [] le = refl
take_twice (suc n) (suc m) (x ∷ xs) le = ap (λ ys. x ∷ ys) (take_twice n m xs (omega arith))

-- what keeps what is written keeps what stood before
pub kept_on : (before into into' : List ℕ) → take (length before) into ≡ before → take (length into) into' ≡ into → take (length before) into' ≡ before
kept_on before into into' kept later =
    sym (take_twice (length before) (length into) into' (kept_longer before into kept)) ∙ (ap (take (length before)) later ∙ kept)

kept_append : (before into more : List ℕ) → take (length before) into ≡ before → take (length before) (into ++ more) ≡ before
kept_append before into more kept = let longer : length before ≤ length into = kept_longer before into kept in rw (take-append-le (length before) into more longer) kept

module _ {before into : List ℕ} {start at seconds : ℕ} {all rest : List Row} where
  -- what is left under another name
  pub left_is : (rest' : List Row) → rest ≡ rest' → Left before into start at seconds all rest → Left before into start at seconds all rest'
  left_is rest' e left = subst (Left before into start at seconds all) e left

  -- one event more
  pub left_more : (event : Row) → Left before into start at seconds all (event ∷ rest) → (into' : List ℕ) (at' : ℕ) → into' ≡ into ++ printed_event at seconds event → at' ≡ at + row_length event → Left before into' start at' seconds all rest
  left_more event left into' at' written ends = record {
    ends = omega (arith, left.ends, sum_by-cons row_length event rest);
    bytes = rw (written, ends, append_assoc into (printed_event at seconds event) (laid (at + row_length event) seconds rest)) left.bytes;
    kept = rw written (kept_append before into (printed_event at seconds event) left.kept);
  }

  -- some events more
  pub left_many : (some : List Row) → Left before into start at seconds all (some ++ rest) → (into' : List ℕ) (at' : ℕ) → into' ≡ into ++ laid at seconds some → at' ≡ at + events_length some → Left before into' start at' seconds all rest
  left_many some left into' at' written ends = record {
    ends = omega (arith, left.ends, sum_by-append row_length some rest);
    bytes = rw (written, ends, append_assoc into (laid at seconds some) (laid (at + events_length some) seconds rest), ← laid_append at seconds some rest) left.bytes;
    kept = rw written (kept_append before into (laid at seconds some) left.kept);
  }

-- the next events end where all do, or before
pub some_within : (before into : List ℕ) (start at seconds : ℕ) (all some rest : List Row) → Left before into start at seconds all (some ++ rest) → at + events_length some ≤ start + events_length all
some_within before into start at seconds all some rest left = omega (arith, left.ends, sum_by-append row_length some rest)

-- and so does one event
pub event_within : (before into : List ℕ) (start at seconds : ℕ) (all : List Row) (event : Row) (rest : List Row) → Left before into start at seconds all (event ∷ rest) → at + row_length event ≤ start + events_length all
event_within before into start at seconds all event rest left = omega (arith, left.ends, sum_by-cons row_length event rest)

-- no event is left
pub left_none : {before into : List ℕ} {start at seconds : ℕ} {all : List Row} → Left before into start at seconds all [] → record { bytes : into ≡ before ++ laid start seconds all; ends : at ≡ start + events_length all }
left_none {into} left = record { bytes = sym (append-nil into) ∙ left.bytes; ends = omega (arith, left.ends) }

pub left_all : (before : List ℕ) (start seconds : ℕ) (all rest : List Row) → all ≡ rest → Left before before start start seconds all rest
left_all before start seconds all rest e = record { ends = rw e refl; bytes = rw e refl; kept = take-length before }

-- a fact under a result
pub on_ok : {T E P Q : Type 0} (result : Result T E) → (P → Q) → OnOk result P → OnOk result Q
on_ok (Ok value) f h = f h
on_ok (Err error) f h = tt

-- an event, some events, and two events more
pub four_laid : (before b1 b2 b3 b4 : List ℕ) (at p1 p2 p3 seconds : ℕ) (first : Row) (some : List Row) (third last : Row)
    → b1 ≡ before ++ printed_event at seconds first → p1 ≡ at + row_length first
    → b2 ≡ b1 ++ laid p1 seconds some → p2 ≡ p1 + events_length some
    → b3 ≡ b2 ++ printed_event p2 seconds third → p3 ≡ p2 + row_length third
    → b4 ≡ b3 ++ printed_event p3 seconds last
    → b4 ≡ before ++ laid at seconds (first ∷ (some ++ (third ∷ last ∷ [])))
four_laid before b1 b2 b3 b4 at p1 p2 p3 seconds first some third last w1 e1 w2 e2 w3 e3 w4 =
    let all = first ∷ (some ++ (third ∷ last ∷ [])) in
    let l0 = left_all before at seconds all all refl in
    let l1 = left_more first l0 b1 p1 w1 e1 in
    let l2 = left_many some l1 b2 p2 w2 e2 in
    let l3 = left_more third l2 b3 p3 w3 e3 in
    (left_none (left_more last l3 b4 (p3 + row_length last) w4 refl)).bytes

-- an event, some events, and one event more
pub three_laid : (before b1 b2 b3 : List ℕ) (at p1 p2 seconds : ℕ) (first : Row) (some : List Row) (last : Row)
    → b1 ≡ before ++ printed_event at seconds first → p1 ≡ at + row_length first
    → b2 ≡ b1 ++ laid p1 seconds some → p2 ≡ p1 + events_length some
    → b3 ≡ b2 ++ printed_event p2 seconds last
    → b3 ≡ before ++ laid at seconds (first ∷ (some ++ (last ∷ [])))
three_laid before b1 b2 b3 at p1 p2 seconds first some last w1 e1 w2 e2 w3 =
    let all = first ∷ (some ++ (last ∷ [])) in
    let l0 = left_all before at seconds all all refl in
    let l1 = left_more first l0 b1 p1 w1 e1 in
    let l2 = left_many some l1 b2 p2 w2 e2 in
    (left_none (left_more last l2 b3 (p2 + row_length last) w3 refl)).bytes
