-- One transaction more of those that the one file is printed from.
use Rattle.std.proofs.Common.{◌≡◌, ◌≤◌, ◌<◌, ℕ, ◌+◌, ◌^◌, leb, Bool, true, false, List, [], ◌∷◌, ◌++◌, length, length-append, append_assoc, append-nil, find, Option, Some, None, inl, inr, ap, sym, subst, refl, ◌∙◌, arith, add-zero}
use Rattle.std.specs.List.{before_first}
use Rattle.std.specs.Option.{option_map}
use Rattle.std.proofs.lemmas.Bool.{le-leb, lt-leb, le-ltb, lt-ltb}
use Rattle.cdc_model.specs.Records.{Transaction}
use Rattle.cdc_model.specs.Print.{printed_bytes, printed_length}
use Rattle.cdc_model.specs.Transaction.{is_oversized}
use Rattle.cdc_model.specs.Output.{file_head, last_place, prints_within, first_beyond, some_or}
use Rattle.cdc_model.proofs.PrintLength.{length_printed}
use Rattle.cdc_model.proofs.OrderCut.{first_passes, first_fails, found_at, found_later}
use Rattle.cdc_model.proofs.OutputGrowth.{within_by, beyond_by, beyond_stays, found_stays}
use Rattle.cdc_print.specs.declared.printing.Beyond.{Beyond}
use Rattle.cdc_print.specs.declared.printing.Printing.{Printing}
use Rattle.cdc_print.specs.Printed.{fitting, ends_file, told_beyond, printed_file, has_some, ShowsFile, Puts}

-- ---- prints, where all fit so far

-- one more goes behind them
pub record GoesBy (at : ℕ) (txns : List Transaction) (txn : Transaction) : Type 0 where
  pub prints : prints_within at (txns ++ txn ∷ []) ≡ prints_within at txns ++ prints_within (at + length (prints_within at txns)) (txn ∷ [])
  pub beyond : first_beyond at (txns ++ txn ∷ []) ≡ first_beyond (at + length (prints_within at txns)) (txn ∷ [])

pub goes_by : (at : ℕ) (txns : List Transaction) (txn : Transaction) → first_beyond at txns ≡ None → GoesBy at txns txn
goes_by at [] txn none = record {
  prints = ap (λ (place : ℕ). prints_within place (txn ∷ [])) (sym (add-zero at));
  beyond = ap (λ (place : ℕ). first_beyond place (txn ∷ [])) (sym (add-zero at));
}
goes_by at (first ∷ txns) txn none = by (leb (at + printed_length [] first) last_place) refl (goes_by (at + printed_length [] first) txns txn)
  where
    by : (fits : Bool) → leb (at + printed_length [] first) last_place ≡ fits
        → (first_beyond (at + printed_length [] first) txns ≡ None → GoesBy (at + printed_length [] first) txns txn) → GoesBy at (first ∷ txns) txn
    by true is later =
        let inner = later (sym (beyond_by at first txns true is) ∙ none) in
        let own = printed_bytes [] first at in
        let rest = prints_within (at + printed_length [] first) txns in
        let whole : prints_within at (first ∷ txns) ≡ own ++ rest = within_by at first txns true is in
        let place : at + printed_length [] first + length rest ≡ at + length (prints_within at (first ∷ txns))
        = omega (arith, ap length whole, length-append own rest, length_printed [] first at) in
        record {
          prints =
              within_by at first (txns ++ txn ∷ []) true is ∙ ap (λ (bytes : List ℕ). own ++ bytes) inner.prints
              ∙ sym (append_assoc own rest (prints_within (at + printed_length [] first + length rest) (txn ∷ [])))
              ∙ ap (λ (bytes : List ℕ). bytes ++ prints_within (at + printed_length [] first + length rest) (txn ∷ [])) (sym whole)
              ∙ ap (λ (p : ℕ). prints_within at (first ∷ txns) ++ prints_within p (txn ∷ [])) place;
          beyond = beyond_by at first (txns ++ txn ∷ []) true is ∙ inner.beyond ∙ ap (λ (p : ℕ). first_beyond p (txn ∷ [])) place;
        }
    by false is later = absurd (let e : Some first ≡ None = sym (beyond_by at first txns false is) ∙ none in cc)

-- ---- a list of which no item passes a test

pub none_passes : {X : Type 0} (test : X → Bool) (xs : List X) → find test xs ≡ None → before_first test xs ≡ xs
none_passes test [] none = refl
none_passes {X} test (x ∷ xs) none = by (test x) refl (none_passes test xs)
  where
    by : (passes : Bool) → test x ≡ passes → (find test xs ≡ None → before_first test xs ≡ xs) → before_first test (x ∷ xs) ≡ x ∷ xs
    by true is later = absurd (let e : Some x ≡ None = sym (found_at test x xs is) ∙ none in cc)
    by false is later = first_fails test x xs is ∙ ap (λ (list : List X). x ∷ list) (later (sym (found_later test x xs is) ∙ none))

-- one item more
pub found_behind : {X : Type 0} (test : X → Bool) (xs : List X) (more : X) → find test xs ≡ None
    → (find test (xs ++ more ∷ []) ≡ find test (more ∷ [])) × (before_first test (xs ++ more ∷ []) ≡ xs ++ before_first test (more ∷ []))
found_behind test [] more none = (refl, refl)
found_behind {X} test (x ∷ xs) more none = by (test x) refl (found_behind test xs more)
  where
    by : (passes : Bool) → test x ≡ passes
        → (find test xs ≡ None → (find test (xs ++ more ∷ []) ≡ find test (more ∷ [])) × (before_first test (xs ++ more ∷ []) ≡ xs ++ before_first test (more ∷ [])))
        → (find test (x ∷ (xs ++ more ∷ [])) ≡ find test (more ∷ [])) × (before_first test (x ∷ (xs ++ more ∷ [])) ≡ x ∷ (xs ++ before_first test (more ∷ [])))
    by true is later = absurd (let e : Some x ≡ None = sym (found_at test x xs is) ∙ none in cc)
    by false is later =
        let behind = later (sym (found_later test x xs is) ∙ none) in (
          found_later test x (xs ++ more ∷ []) is ∙ behind.0,
          first_fails test x (xs ++ more ∷ []) is ∙ ap (λ (list : List X). x ∷ list) behind.1,
        )

-- ---- a file that hasn't ended

pub some_or_none : (first second : Option Transaction) → some_or first second ≡ None → (first ≡ None) × (second ≡ None)
some_or_none None second none = (refl, none)
some_or_none (Some txn) second none = absurd (cc)

-- no transaction is oversized, and none passes the last place
pub record IsOpen (txns : List Transaction) : Type 0 where
  pub small : find (is_oversized []) txns ≡ None
  pub all : fitting txns ≡ txns
  pub within : first_beyond (length file_head) txns ≡ None
  pub place : length (printed_file txns) ≡ length file_head + length (prints_within (length file_head) txns)

pub is_open : (txns : List Transaction) → ends_file txns ≡ None → IsOpen txns
is_open txns none =
    let both = some_or_none (first_beyond (length file_head) (fitting txns)) (find (is_oversized []) txns) none in
    let all : fitting txns ≡ txns = none_passes (is_oversized []) txns both.1 in
    record {
      small = both.1;
      all = all;
      within = ap (first_beyond (length file_head)) (sym all) ∙ both.0;
      place = ap (λ (list : List Transaction). length (file_head ++ prints_within (length file_head) list)) all ∙ length-append file_head (prints_within (length file_head) txns);
    }

-- a list behind which one more stands has some
pub some_behind : (txns : List Transaction) (txn : Transaction) → has_some (txns ++ txn ∷ []) ≡ true
some_behind [] txn = refl
some_behind (first ∷ txns) txn = refl

-- what a file becomes with a transaction more that isn't oversized
pub record WithFitting (txns : List Transaction) (txn : Transaction) : Type 0 where
  pub file : printed_file (txns ++ txn ∷ []) ≡ printed_file txns ++ prints_within (length (printed_file txns)) (txn ∷ [])
  pub ends : ends_file (txns ++ txn ∷ []) ≡ first_beyond (length (printed_file txns)) (txn ∷ [])
  pub begun : has_some (fitting (txns ++ txn ∷ [])) ≡ true

pub or_none : (found : Option Transaction) → some_or found None ≡ found
or_none None = refl
or_none (Some txn) = refl

pub with_fitting : (txns : List Transaction) (txn : Transaction) → ends_file txns ≡ None → printed_length [] txn ≤ 2 ^ 28 → WithFitting txns txn
with_fitting txns txn none fits =
    let o = is_open txns none in
    let test = is_oversized [] in
    let small : test txn ≡ false = le-ltb (2 ^ 28) (printed_length [] txn) fits in
    let behind = found_behind test txns txn o.small in
    let all : fitting (txns ++ txn ∷ []) ≡ txns ++ txn ∷ [] = behind.1 ∙ ap (λ (list : List Transaction). txns ++ list) (first_fails test txn [] small) in
    let more = goes_by (length file_head) txns txn o.within in
    let old = prints_within (length file_head) txns in
    let same : length file_head + length old ≡ length (printed_file txns) = sym o.place in
    record {
      file =
          ap (λ (list : List Transaction). file_head ++ prints_within (length file_head) list) all ∙ ap (λ (bytes : List ℕ). file_head ++ bytes) more.prints
          ∙ sym (append_assoc file_head old (prints_within (length file_head + length old) (txn ∷ [])))
          ∙ ap (λ (list : List Transaction). (file_head ++ prints_within (length file_head) list) ++ prints_within (length file_head + length old) (txn ∷ [])) (sym o.all)
          ∙ ap (λ (p : ℕ). printed_file txns ++ prints_within p (txn ∷ [])) same;
      ends =
          ap (λ (found : Option Transaction). some_or (first_beyond (length file_head) (fitting (txns ++ txn ∷ []))) found) (behind.0 ∙ found_later test txn [] small)
          ∙ or_none (first_beyond (length file_head) (fitting (txns ++ txn ∷ []))) ∙ ap (first_beyond (length file_head)) all ∙ more.beyond
          ∙ ap (λ (p : ℕ). first_beyond p (txn ∷ [])) same;
      begun = ap has_some all ∙ some_behind txns txn;
    }

-- it is printed
pub shows_more : (pieces : List ℕ) (at : ℕ) (begun : Bool) (txns : List Transaction) (txn : Transaction) → ShowsFile pieces at begun None txns
    → ends_file txns ≡ None → printed_length [] txn ≤ 2 ^ 28 → at + printed_length [] txn ≤ last_place
    → ShowsFile (pieces ++ printed_bytes [] txn at) (at + printed_length [] txn) true None (txns ++ txn ∷ [])
shows_more pieces at begun txns txn shows none fits within =
    let with = with_fitting txns txn none fits in
    let is : leb (at + printed_length [] txn) last_place ≡ true = le-leb (at + printed_length [] txn) last_place within in
    let print : prints_within at (txn ∷ []) ≡ printed_bytes [] txn at = within_by at txn [] true is ∙ append-nil (printed_bytes [] txn at) in
    let file : pieces ++ printed_bytes [] txn at ≡ printed_file (txns ++ txn ∷ [])
    = ap (λ (bytes : List ℕ). bytes ++ printed_bytes [] txn at) shows.bytes ∙ ap (λ (bytes : List ℕ). printed_file txns ++ bytes) (sym print)
    ∙ ap (λ (p : ℕ). printed_file txns ++ prints_within p (txn ∷ [])) shows.place ∙ sym with.file in
    record {
      bytes = file;
      place = omega (arith, ap length file, length-append pieces (printed_bytes [] txn at), length_printed [] txn at, ap length shows.bytes, shows.place);
      has_begun = sym with.begun;
      ends = sym (ap (option_map told_beyond) (with.ends ∙ ap (λ (p : ℕ). first_beyond p (txn ∷ [])) (sym shows.place) ∙ beyond_by at txn [] true is));
    }

-- it would pass the last place
pub shows_passed : (pieces : List ℕ) (at : ℕ) (begun : Bool) (txns : List Transaction) (txn : Transaction) → ShowsFile pieces at begun None txns
    → ends_file txns ≡ None → printed_length [] txn ≤ 2 ^ 28 → last_place < at + printed_length [] txn
    → ShowsFile pieces at true (Some (told_beyond txn)) (txns ++ txn ∷ [])
shows_passed pieces at begun txns txn shows none fits passes =
    let with = with_fitting txns txn none fits in
    let is : leb (at + printed_length [] txn) last_place ≡ false = lt-leb (at + printed_length [] txn) last_place passes in
    let file : printed_file (txns ++ txn ∷ []) ≡ printed_file txns
    = with.file ∙ ap (λ (p : ℕ). printed_file txns ++ prints_within p (txn ∷ [])) (sym shows.place)
    ∙ ap (λ (bytes : List ℕ). printed_file txns ++ bytes) (within_by at txn [] false is) ∙ append-nil (printed_file txns) in
    record {
      bytes = shows.bytes ∙ sym file;
      place = shows.place ∙ ap length (sym file);
      has_begun = sym with.begun;
      ends = sym (ap (option_map told_beyond) (with.ends ∙ ap (λ (p : ℕ). first_beyond p (txn ∷ [])) (sym shows.place) ∙ beyond_by at txn [] false is));
    }

-- it is oversized
pub shows_refused : (pieces : List ℕ) (at : ℕ) (begun : Bool) (txns : List Transaction) (txn : Transaction) → ShowsFile pieces at begun None txns
    → ends_file txns ≡ None → 2 ^ 28 < printed_length [] txn → ShowsFile pieces at begun (Some (told_beyond txn)) (txns ++ txn ∷ [])
shows_refused pieces at begun txns txn shows none large =
    let o = is_open txns none in
    let test = is_oversized [] in
    let over : test txn ≡ true = lt-ltb (2 ^ 28) (printed_length [] txn) large in
    let behind = found_behind test txns txn o.small in
    let same : fitting (txns ++ txn ∷ []) ≡ fitting txns
    = behind.1 ∙ ap (λ (list : List Transaction). txns ++ list) (first_passes test txn [] over) ∙ append-nil txns ∙ sym o.all in
    let ends : ends_file (txns ++ txn ∷ []) ≡ Some txn
    = ap (λ (list : List Transaction). some_or (first_beyond (length file_head) list) (find test (txns ++ txn ∷ []))) (same ∙ o.all)
    ∙ ap (λ (found : Option Transaction). some_or found (find test (txns ++ txn ∷ []))) o.within ∙ behind.0 ∙ found_at test txn [] over in
    record {
      bytes = shows.bytes ∙ ap (λ (list : List Transaction). file_head ++ prints_within (length file_head) list) (sym same);
      place = shows.place ∙ ap (λ (list : List Transaction). length (file_head ++ prints_within (length file_head) list)) (sym same);
      has_begun = shows.has_begun ∙ ap has_some (sym same);
      ends = sym (ap (option_map told_beyond) ends);
    }

-- ---- a file that has ended

has_front : (txns rest : List Transaction) (other : Transaction) → first_beyond (length file_head) txns ≡ Some other → has_some (txns ++ rest) ≡ has_some txns
has_front [] rest other is = absurd (cc)
has_front (txn ∷ txns) rest other is = refl

pub ended_stays : (txns : List Transaction) (txn other : Transaction) → ends_file txns ≡ Some other
    → (printed_file (txns ++ txn ∷ []) ≡ printed_file txns) × (ends_file (txns ++ txn ∷ []) ≡ Some other) × (has_some (fitting (txns ++ txn ∷ [])) ≡ has_some (fitting txns))
ended_stays txns txn other is = by (find (is_oversized []) txns) refl
  where
    by : (found : Option Transaction) → find (is_oversized []) txns ≡ found
        → (printed_file (txns ++ txn ∷ []) ≡ printed_file txns) × (ends_file (txns ++ txn ∷ []) ≡ Some other) × (has_some (fitting (txns ++ txn ∷ [])) ≡ has_some (fitting txns))
    by (Some over) found =
        let kept = found_stays (is_oversized []) txns (txn ∷ []) over found in (
          ap (λ (list : List Transaction). file_head ++ prints_within (length file_head) list) kept.1,
          ap (λ (list : List Transaction). some_or (first_beyond (length file_head) list) (find (is_oversized []) (txns ++ txn ∷ []))) kept.1
              ∙ ap (λ (o : Option Transaction). some_or (first_beyond (length file_head) (fitting txns)) o) (kept.0 ∙ sym found) ∙ is,
          ap has_some kept.1,
        )
    by None found =
        let all : fitting txns ≡ txns = none_passes (is_oversized []) txns found in
        let behind = found_behind (is_oversized []) txns txn found in
        let rest = before_first (is_oversized []) (txn ∷ []) in
        let beyond : first_beyond (length file_head) txns ≡ Some other
        = ap (first_beyond (length file_head)) (sym all) ∙ sym (or_none (first_beyond (length file_head) (fitting txns)))
        ∙ ap (λ (o : Option Transaction). some_or (first_beyond (length file_head) (fitting txns)) o) (sym found) ∙ is in
        let kept = beyond_stays (length file_head) txns rest other beyond in (
          ap (λ (list : List Transaction). file_head ++ prints_within (length file_head) list) behind.1 ∙ ap (λ (bytes : List ℕ). file_head ++ bytes) kept.1
              ∙ ap (λ (list : List Transaction). file_head ++ prints_within (length file_head) list) (sym all),
          ap (λ (o : Option Transaction). some_or o (find (is_oversized []) (txns ++ txn ∷ []))) (ap (first_beyond (length file_head)) behind.1 ∙ kept.0),
          ap has_some behind.1 ∙ has_front txns rest other beyond ∙ ap has_some (sym all),
        )

pub shows_ended : (pieces : List ℕ) (at : ℕ) (begun : Bool) (beyond : Beyond) (txns : List Transaction) (txn : Transaction)
    → ShowsFile pieces at begun (Some beyond) txns → ShowsFile pieces at begun (Some beyond) (txns ++ txn ∷ [])
shows_ended pieces at begun beyond txns txn shows = by (ends_file txns) refl
  where
    by : (ends : Option Transaction) → ends_file txns ≡ ends → ShowsFile pieces at begun (Some beyond) (txns ++ txn ∷ [])
    by None is = absurd (let e : Some beyond ≡ None = shows.ends ∙ ap (option_map told_beyond) is in cc)
    by (Some other) is =
        let kept = ended_stays txns txn other is in
        record {
          bytes = shows.bytes ∙ sym kept.0;
          place = shows.place ∙ ap length (sym kept.0);
          has_begun = shows.has_begun ∙ sym kept.2;
          ends = shows.ends ∙ ap (option_map told_beyond) (is ∙ sym kept.1);
        }

-- ---- both, as the code has them

pub told_none : (ends : Option Transaction) → option_map told_beyond ends ≡ None → ends ≡ None
told_none None is = refl
told_none (Some txn) is = absurd (cc)

-- the same of other names for what is told
shows_as : (pieces other : List ℕ) (at place : ℕ) (begun has : Bool) (beyond end : Option Beyond) (txns : List Transaction) → other ≡ pieces → place ≡ at → has ≡ begun → end ≡ beyond
    → ShowsFile pieces at begun beyond txns → ShowsFile other place has end txns
shows_as pieces other at place begun has beyond end txns a b c d shows =
    record { bytes = a ∙ shows.bytes; place = b ∙ shows.place; has_begun = c ∙ shows.has_begun; ends = d ∙ shows.ends }

put_by : (old new : Printing) (txns : List Transaction) (txn : Transaction) → ShowsFile old.pieces old.at old.begun None txns → ends_file txns ≡ None → Puts old new txn
    → ShowsFile new.pieces new.at new.begun new.beyond (txns ++ txn ∷ [])
put_by old new txns txn shows none (inl puts) =
    shows_as (old.pieces ++ printed_bytes [] txn old.at) new.pieces (old.at + printed_length [] txn) new.at true new.begun None new.beyond (txns ++ txn ∷ [])
    puts.pieces puts.at puts.begun puts.beyond (shows_more old.pieces old.at old.begun txns txn shows none puts.fits puts.within)
put_by old new txns txn shows none (inr (inl passes)) =
    shows_as old.pieces new.pieces old.at new.at true new.begun (Some (told_beyond txn)) new.beyond (txns ++ txn ∷ [])
    passes.pieces passes.at passes.begun passes.beyond (shows_passed old.pieces old.at old.begun txns txn shows none passes.fits passes.passes)
put_by old new txns txn shows none (inr (inr refused)) =
    shows_as old.pieces new.pieces old.at new.at old.begun new.begun (Some (told_beyond txn)) new.beyond (txns ++ txn ∷ [])
    refused.pieces refused.at refused.begun refused.beyond (shows_refused old.pieces old.at old.begun txns txn shows none refused.large)

-- a transaction more, where the file hasn't ended
pub put_more : (old new : Printing) (txns : List Transaction) (txn : Transaction) → old.beyond ≡ None → Puts old new txn → ShowsFile old.pieces old.at old.begun old.beyond txns
    → ShowsFile new.pieces new.at new.begun new.beyond (txns ++ txn ∷ [])
put_more old new txns txn room puts shows =
    let open_shows : ShowsFile old.pieces old.at old.begun None txns = subst (λ (end : Option Beyond). ShowsFile old.pieces old.at old.begun end txns) room shows in
    let none : ends_file txns ≡ None = told_none (ends_file txns) (sym open_shows.ends) in
    put_by old new txns txn open_shows none puts

-- where it has
pub ended_more : (old : Printing) (beyond : Beyond) (txns : List Transaction) (txn : Transaction) → old.beyond ≡ Some beyond → ShowsFile old.pieces old.at old.begun old.beyond txns
    → ShowsFile old.pieces old.at old.begun old.beyond (txns ++ txn ∷ [])
ended_more old beyond txns txn is shows =
    subst (λ (end : Option Beyond). ShowsFile old.pieces old.at old.begun end (txns ++ txn ∷ [])) (sym is)
    (shows_ended old.pieces old.at old.begun beyond txns txn (subst (λ (end : Option Beyond). ShowsFile old.pieces old.at old.begun end txns) is shows))
