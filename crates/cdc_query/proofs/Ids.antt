-- Reading the name of a branch.
use Rattle.std.proofs.Common.{◌⊎◌, unwrap_or, ℕ, true, false, List, [], ◌∷◌, ◌++◌, ◌≡◌, ◌≢◌, ◌<◌, ◌≤◌, ◌^◌, length, refl, sym, ap, ◌∙◌, inl, inr, arith, Option, Some, None, Result, Ok, Err, append_assoc, append-nil}
use Rattle.std.specs.Prelude.{◌==◌, ◌&&◌, codes, nat_lt, nat_le}
use Rattle.std.specs.Char.{to_ascii_lowercase, is_ascii_digit}
use Rattle.std.specs.List.{list_all}
use Rattle.std.specs.Result.{result_ok}
use Rattle.std.specs.Str.Parse.{IsNumeral, digits_value}
use Rattle.std.proofs.lemmas.Bool.{and_parts, and_from, cases_Bool, cases_eq, cond-true, cond-false, eq-eqb, eqb-true, ne_eqb, le-leb, leb-true, lt-ltb, ltb-true}
use Rattle.std.proofs.lemmas.List.Sums.{list_all-from_AllPass}
use Rattle.hex.specs.Hex.{decode_of, is_hex_digit}
use Rattle.hex.specs.declared.error.FromHexError.{FromHexError}
use Rattle.hex.proofs.HexLemmas.{decode_of-ok}
use Rattle.cdc_base.specs.declared.xid.Xid.{Xid}
use Rattle.cdc_query.specs.Grammar.{IsFormat, IsHex, IsWord, IsXidText, spaces}
use Rattle.cdc_query.specs.Words.{before, behind_word, closed, xid_format_of, quoted_id_of, if_last, if_small, is_number, decimal_of, quoted, since, unspaced, xid_behind, xid_from_gtrid, xid_of, xid_with}
use Rattle.cdc_query.proofs.Digits.{parts_of, test-from_digits, digits-from_test}
use Rattle.cdc_query.proofs.Pieces.{IsSolid, StopsAt, before-lacks, front_of, lacks, since-lacks, split_of, stops-spaces, unspaced-front, unspaced-only_spaces}

-- ---- what is spelled is read

pub id-complete : (id digits : List ℕ) → IsHex id digits → quoted_id_of digits ≡ Some id
id-complete id digits h = rw (le-leb (length digits) 128 h.0, h.1) refl

hex_lacks : (digits : List ℕ) → list_all is_hex_digit digits ≡ true → lacks 39 digits ≡ true
hex_lacks [] h = refl
hex_lacks (b ∷ digits) h =
    let parts = and_parts (is_hex_digit b) (list_all is_hex_digit digits) h in
    let ne : b ≢ 39 = λ e. let v = ap is_hex_digit e in cc parts.0 in
    let test : (b == 39) ≡ false = ne_eqb b 39 ne in
    rw test (hex_lacks digits parts.1)

pub lacks-hex : (id digits : List ℕ) → IsHex id digits → lacks 39 digits ≡ true
lacks-hex id digits h = hex_lacks digits (list_all-from_AllPass is_hex_digit digits (decode_of-ok digits id h.1).1)

-- `X'` in either case
pub record Opening (x : List ℕ) : Type 0 where
  pub letter : ℕ
  pub is : x ≡ letter ∷ 39 ∷ []
  pub lower : to_ascii_lowercase letter ≡ 120

quote_only : (q : ℕ) → to_ascii_lowercase q ≡ 39 → q ≡ 39
quote_only q h = grind arith

pub opening_of : (x : List ℕ) → IsWord (codes "X'") x → Opening x
opening_of [] h = cc h
opening_of (a ∷ []) h = cc h
opening_of (a ∷ q ∷ []) h =
    let first : to_ascii_lowercase a ≡ 120 = cc h in
    let second : to_ascii_lowercase q ≡ 39 = cc h in
    record { letter = a; is = ap (λ (n : ℕ). a ∷ n ∷ []) (quote_only q second); lower = first }
opening_of (a ∷ q ∷ b ∷ more) h = cc h

pub quoted-complete : (x digits rest : List ℕ) (gap : ℕ) → IsWord (codes "X'") x → lacks 39 digits ≡ true → IsSolid rest
    → quoted (x ++ (digits ++ (codes "'," ++ (spaces gap ++ rest)))) ≡ Some (digits, rest)
quoted-complete x digits rest gap h free solid =
    let o = opening_of x h in
    let lower : (to_ascii_lowercase o.letter == 120) ≡ true = eq-eqb (to_ascii_lowercase o.letter) 120 o.lower in
    let tail : List ℕ = 39 ∷ 44 ∷ (spaces gap ++ rest) in
    rw (o.is, lower, before-lacks 39 digits tail free refl, since-lacks 39 digits tail free refl, unspaced-front gap rest solid) refl

-- a decimal digit is no space
digits_lack : (digits : List ℕ) → list_all is_ascii_digit digits ≡ true → lacks 32 digits ≡ true
digits_lack [] h = refl
digits_lack (b ∷ digits) h =
    let parts = and_parts (is_ascii_digit b) (list_all is_ascii_digit digits) h in
    let ne : b ≢ 32 = λ e. let v = ap is_ascii_digit e in cc parts.0 in
    let test : (b == 32) ≡ false = ne_eqb b 32 ne in
    rw test (digits_lack digits parts.1)

number_test : (digits : List ℕ) → IsNumeral 10 digits → length digits ≤ 10 → is_number digits ≡ true
number_test digits numeral few =
    and_from _ _ (and_from _ _ (lt-ltb 0 (length digits) numeral.0) (le-leb (length digits) 10 few)) (test-from_digits digits numeral.1)

pub number-complete : (number : ℕ) (digits : List ℕ) → IsFormat number digits → decimal_of digits ≡ Some number
number-complete number digits h =
    let test = number_test digits h.0 h.1 in
    let small = lt-ltb (digits_value 10 digits) (2 ^ 32) h.2 in
    rw (test, small, h.3) refl

pub format-complete : (number right : ℕ) (digits : List ℕ) → IsFormat number digits → xid_format_of (digits ++ spaces right) ≡ Some number
format-complete number right digits h =
    let free = digits_lack digits (test-from_digits digits h.0.1) in
    rw (before-lacks 32 digits (spaces right) free (stops-spaces right), since-lacks 32 digits (spaces right) free (stops-spaces right), unspaced-only_spaces right) (number-complete number digits h)

pub solid-digits : (number : ℕ) (digits rest : List ℕ) → IsFormat number digits → IsSolid (digits ++ rest)
solid-digits number [] rest h = absurd (omega (arith, h.0.0))
solid-digits number (b ∷ digits) rest h =
    let all = test-from_digits (b ∷ digits) h.0.1 in
    let parts = and_parts (is_ascii_digit b) (list_all is_ascii_digit digits) all in
    λ e. let v = ap is_ascii_digit e in cc parts.0

pub solid-opening : (x rest : List ℕ) → IsWord (codes "X'") x → IsSolid (x ++ rest)
solid-opening x rest h =
    let o = opening_of x h in
    rw o.is (λ e. let lowered = ap to_ascii_lowercase e in cc o.lower)

-- the name of a branch, laid out piece by piece
abbrev name_text : List ℕ → List ℕ → ℕ → List ℕ → List ℕ → ℕ → List ℕ → List ℕ
name_text x gtrid gap y bqual more rest = x ++ (gtrid ++ (codes "'," ++ (spaces gap ++ (y ++ (bqual ++ (codes "'," ++ (spaces more ++ rest)))))))

pub xid-complete : (xid : Xid) (right : ℕ) (name : List ℕ) → IsXidText xid name → xid_of (name ++ spaces right) ≡ Some xid
xid-complete xid right name (gtrid, bqual, format, (x, g, gap, isx, isg, eg), (y, b, more, isy, isb, eb), isf, e) =
    let rest : List ℕ = format ++ spaces right in
    let second : List ℕ = y ++ (b ++ (codes "'," ++ (spaces more ++ rest))) in
    let layout : name ++ spaces right ≡ name_text x g gap y b more rest = rw (e, eg, eb) (simp append_assoc) in
    let one = quoted-complete x g second gap isx (lacks-hex xid.gtrid g isg) (solid-opening y _ isy) in
    let two = quoted-complete y b rest more isy (lacks-hex xid.bqual b isb) (solid-digits xid.format format (spaces right) isf) in
    let step : xid_of (name ++ spaces right) ≡ xid_behind g (quoted second) = ap xid_of layout ∙ ap xid_from_gtrid one in
    let next : xid_behind g (quoted second) ≡ xid_with (quoted_id_of g) (quoted_id_of b) (xid_format_of rest) = ap (xid_behind g) two in
    let last : xid_with (quoted_id_of g) (quoted_id_of b) (xid_format_of rest) ≡ Some xid =
    rw (id-complete xid.gtrid g isg, id-complete xid.bqual b isb, format-complete xid.format right format isf) refl in
    step ∙ next ∙ last

pub solid-name : (xid : Xid) (name rest : List ℕ) → IsXidText xid name → IsSolid (name ++ rest)
solid-name xid name rest (gtrid, bqual, format, (x, g, gap, isx, isg, eg), second, isf, e) =
    let layout : name ++ rest ≡ x ++ (g ++ (codes "'," ++ (spaces gap ++ (bqual ++ (format ++ rest))))) = rw (e, eg) (simp append_assoc) in
    rw layout (solid-opening x _ isx)

-- ---- what is read is spelled

pub option_cases : {A : Type 0} (o : Option A) → (o ≡ None) ⊎ ((x : A) × (o ≡ Some x))
option_cases None = inl refl
option_cases (Some x) = inr (x, refl)

some_same : {A : Type 0} {x y : A} → Some x ≡ Some y → x ≡ y
some_same {A} {x} {y} h = ap (λ (o : Option A). unwrap_or o x) h

decoded : (r : Result (List ℕ) FromHexError) (id : List ℕ) → result_ok r ≡ Some id → r ≡ Ok id
decoded (Ok bytes) id h = let same : bytes ≡ id = cc h in ap Ok same
decoded (Err e) id h = cc h

pub id-sound : (id digits : List ℕ) → quoted_id_of digits ≡ Some id → IsHex id digits
id-sound id digits h =
    elim (cases_Bool (nat_le (length digits) 128)) [
      | inl short ↦ (leb-true (length digits) 128 short, decoded (decode_of digits) id (sym (cond-true _ _ _ short) ∙ h))
      | inr long ↦ let no : None ≡ Some id = sym (cond-false _ _ _ long) ∙ h in cc no
    ]

-- an id as `X'..',` at the front of a text, with its digits and what follows
abbrev pub QuotedFront : List ℕ → List ℕ → List ℕ → Type 0
QuotedFront text digits rest = (x : List ℕ) × (gap : ℕ) × IsWord (codes "X'") x × (text ≡ x ++ (digits ++ (codes "'," ++ (spaces gap ++ rest))))

closed-sound : (letter : ℕ) (text digits rest found left : List ℕ) → to_ascii_lowercase letter ≡ 120 → StopsAt 39 rest → closed digits rest ≡ Some (found, left)
    → text ≡ letter ∷ 39 ∷ (digits ++ rest) → QuotedFront text found left
closed-sound letter text digits [] found left lower stops h e = cc h
closed-sound letter text digits (q ∷ []) found left lower stops h e = cc h
closed-sound letter text digits (q ∷ comma ∷ rest) found left lower stops h e =
    elim (cases_eq comma 44) [
      | inl is ↦
          let test : (comma == 44) ≡ true = eq-eqb comma 44 is in
          let same : Some (digits, unspaced rest) ≡ Some (found, left) = sym (cond-true _ _ _ test) ∙ h in
          let pair = some_same same in
          let one : digits ≡ found = ap (λ (p : List ℕ × List ℕ). p.0) pair in
          let two : unspaced rest ≡ left = ap (λ (p : List ℕ × List ℕ). p.1) pair in
          let front = front_of rest in (
            letter ∷ 39 ∷ [],
            front.count,
            ap (λ (n : ℕ). n ∷ 39 ∷ []) lower,
            e ∙ rw (← one, ← two, stops, is, ← front.whole) refl,
          )
      | inr ne ↦
          let test : (comma == 44) ≡ false = ne_eqb comma 44 ne in
          let no : None ≡ Some (found, left) = sym (cond-false _ _ _ test) ∙ h in
          cc no
    ]

pub quoted-sound : (text found left : List ℕ) → quoted text ≡ Some (found, left) → QuotedFront text found left
quoted-sound [] found left h = cc h
quoted-sound (letter ∷ []) found left h = cc h
quoted-sound (letter ∷ quote ∷ rest) found left h =
    elim (cases_Bool (to_ascii_lowercase letter == 120 && quote == 39)) [
      | inl test ↦
          let parts = and_parts (to_ascii_lowercase letter == 120) (quote == 39) test in
          let split = split_of 39 rest in
          let is : quote ≡ 39 = eqb-true quote 39 parts.1 in
          let e : letter ∷ quote ∷ rest ≡ letter ∷ 39 ∷ (before 39 rest ++ since 39 rest) = rw (is, ← split.whole) refl in
          closed-sound letter (letter ∷ quote ∷ rest) (before 39 rest) (since 39 rest) found left (eqb-true (to_ascii_lowercase letter) 120 parts.0) split.stops (sym (cond-true _ _ _ test) ∙ h) e
      | inr test ↦ let no : None ≡ Some (found, left) = sym (cond-false _ _ _ test) ∙ h in cc no
    ]

small-sound : (value number : ℕ) → if_small value ≡ Some number → (value < 2 ^ 32) × (value ≡ number)
small-sound value number h =
    elim (cases_Bool (nat_lt value (2 ^ 32))) [
      | inl test ↦
          let same : Some value ≡ Some number = sym (cond-true _ _ _ test) ∙ h in
          let e : value ≡ number = cc same in
          (ltb-true value (2 ^ 32) test, e)
      | inr test ↦ let no : None ≡ Some number = sym (cond-false _ _ _ test) ∙ h in cc no
    ]

number-sound : (number : ℕ) (digits : List ℕ) → decimal_of digits ≡ Some number → IsFormat number digits
number-sound number digits h =
    elim (cases_Bool (is_number digits)) [
      | inl test ↦
          let parts = parts_of digits test in
          let small = small-sound (digits_value 10 digits) number (sym (cond-true _ _ _ test) ∙ h) in
          ((parts.some, digits-from_test digits parts.all), parts.few, small.0, small.1)
      | inr test ↦ let no : None ≡ Some number = sym (cond-false _ _ _ test) ∙ h in cc no
    ]

-- what is left of a text that begins with a space or is empty, where nothing follows the spaces
pub only_spaces : (gapped : List ℕ) → unspaced gapped ≡ [] → (n : ℕ) × (gapped ≡ spaces n)
only_spaces gapped h = let front = front_of gapped in (front.count, front.whole ∙ ap (λ (t : List ℕ). spaces front.count ++ t) h ∙ append-nil (spaces front.count))

last-sound : (number : ℕ) (digits rest : List ℕ) → if_last (decimal_of digits) rest ≡ Some number → IsFormat number digits × (rest ≡ [])
last-sound number digits [] h = (number-sound number digits h, refl)
last-sound number digits (b ∷ rest) h = cc h

pub format-sound : (number : ℕ) (text : List ℕ) → xid_format_of text ≡ Some number → (digits : List ℕ) × (right : ℕ) × IsFormat number digits × (text ≡ digits ++ spaces right)
format-sound number text h =
    let split = split_of 32 text in
    let last = last-sound number (before 32 text) (behind_word text) h in
    let tail = only_spaces (since 32 text) last.1 in
    (before 32 text, tail.0, last.0, split.whole ∙ ap (λ (t : List ℕ). before 32 text ++ t) tail.1)

with-sound : (xid : Xid) (gtrid bqual : Option (List ℕ)) (format : Option ℕ) → xid_with gtrid bqual format ≡ Some xid
    → (gtrid ≡ Some xid.gtrid) × (bqual ≡ Some xid.bqual) × (format ≡ Some xid.format)
with-sound xid None bqual format h = cc h
with-sound xid (Some g) None format h = cc h
with-sound xid (Some g) (Some b) None h = cc h
with-sound xid (Some g) (Some b) (Some f) h =
    let e : record { gtrid = g; bqual = b; format = f } ≡ xid = cc h in
    (ap (λ (x : Xid). Some x.gtrid) e, ap (λ (x : Xid). Some x.bqual) e, ap (λ (x : Xid). Some x.format) e)

name_layout : (text rest last x g y b format : List ℕ) (gap more right : ℕ) → text ≡ x ++ (g ++ (codes "'," ++ (spaces gap ++ rest)))
    → rest ≡ y ++ (b ++ (codes "'," ++ (spaces more ++ last))) → last ≡ format ++ spaces right
    → text ≡ ((x ++ (g ++ (codes "'," ++ spaces gap))) ++ ((y ++ (b ++ (codes "'," ++ spaces more))) ++ format)) ++ spaces right
name_layout text rest last x g y b format gap more right one two three = rw (one, two, three) (simp append_assoc)

pub xid-sound : (text : List ℕ) (xid : Xid) → xid_of text ≡ Some xid → (name : List ℕ) × (right : ℕ) × IsXidText xid name × (text ≡ name ++ spaces right)
xid-sound text xid h =
    elim (option_cases (quoted text)) [
      | inl none ↦ let no : None ≡ Some xid = sym (ap xid_from_gtrid none) ∙ h in cc no
      | inr (one, first) ↦
          let behind : xid_behind one.0 (quoted one.1) ≡ Some xid = sym (ap xid_from_gtrid first) ∙ h in
          elim (option_cases (quoted one.1)) [
            | inl none ↦ let no : None ≡ Some xid = sym (ap (xid_behind one.0) none) ∙ behind in cc no
            | inr (two, second) ↦
                let parts = with-sound xid (quoted_id_of one.0) (quoted_id_of two.0) (xid_format_of two.1) (sym (ap (xid_behind one.0) second) ∙ behind) in
                let (x, gap, isx, ex) = quoted-sound text one.0 one.1 first in
                let (y, more, isy, ey) = quoted-sound one.1 two.0 two.1 second in
                let (format, right, isf, ef) = format-sound xid.format two.1 parts.2 in
                let gtrid : List ℕ = x ++ (one.0 ++ (codes "'," ++ spaces gap)) in
                let bqual : List ℕ = y ++ (two.0 ++ (codes "'," ++ spaces more)) in (
                  gtrid ++ (bqual ++ format),
                  right,
                  (gtrid, bqual, format, (x, one.0, gap, isx, id-sound xid.gtrid one.0 parts.0, refl), (y, two.0, more, isy, id-sound xid.bqual two.0 parts.1, refl), isf, refl),
                  name_layout text one.1 two.1 x one.0 y two.0 format gap more right ex ey ef,
                )
          ]
    ]
