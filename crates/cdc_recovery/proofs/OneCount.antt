-- An image has one Front.
use Rattle.std.proofs.Common.{◌≡◌, ℕ, ◌<◌, ◌^◌, List, [], ◌∷◌, ◌++◌, append-nil, Option, Some, None, ap, sym, refl, ◌∙◌, arith}
use Rattle.std.specs.Prelude.{MatchOption}
use Rattle.cdc_base.specs.declared.key.Key.{Key}
use Rattle.cdc_event.specs.Number.{low_first}
use Rattle.cdc_cell.specs.Record.{CellRecord, kept_record}
use Rattle.cdc_records.specs.declared.front.Front.{Front}
use Rattle.cdc_records.specs.KeyBytes.{flag_byte, key_bytes}
use Rattle.cdc_records.specs.Front.{no_front, front_numbers, front_bytes_with, IsOfVersion, IsSoundFront, IsFrontRecord}
use Rattle.cdc_records.proofs.OnePoint.{one_number, one_byte, one_flag, one_in_front, one_key}
use Rattle.cdc_recovery.specs.Laws.{ImageHasOneFront, CountIsOne}

-- the parts of a Front that both versions have
record SameNumbers (f g : Front) (rest more : List ℕ) : Type 0 where
  count : f.count ≡ g.count
  file : f.file ≡ g.file
  size : f.length ≡ g.length
  closed : f.closed ≡ g.closed
  behind : rest ≡ more

one_numbers : (f g : Front) (rest more : List ℕ) → IsSoundFront f → IsSoundFront g → front_numbers f ++ rest ≡ front_numbers g ++ more → SameNumbers f g rest more
one_numbers f g rest more x y e =
    let sized : Front → List ℕ = λ (h : Front). low_first 8 h.length ++ (flag_byte h.closed ∷ []) in
    let filed : Front → List ℕ = λ (h : Front). low_first 8 h.file ++ sized h in
    let cf : f.count < 256 ^ 8 = omega (arith, x.most) in
    let cg : g.count < 256 ^ 8 = omega (arith, y.most) in
    let ff : f.file < 256 ^ 8 = omega (arith, x.most, x.within) in
    let fg : g.file < 256 ^ 8 = omega (arith, y.most, y.within) in
    let count_is = one_in_front 8 f.count g.count (filed f) (filed g) rest more cf cg e in
    let file_is = one_in_front 8 f.file g.file (sized f) (sized g) rest more ff fg count_is.1 in
    let size_is = one_in_front 8 f.length g.length (flag_byte f.closed ∷ []) (flag_byte g.closed ∷ []) rest more x.fits y.fits file_is.1 in
    let flag_is = one_byte (flag_byte f.closed) (flag_byte g.closed) rest more size_is.1 in
    record { count = count_is.0; file = file_is.0; size = size_is.0; closed = one_flag f.closed g.closed flag_is.0; behind = flag_is.1 }

-- by the last keys
one_with : (f g : Front) (a b : Option Key) → f.last ≡ a → g.last ≡ b → IsSoundFront f → IsSoundFront g → IsOfVersion a f → IsOfVersion b g
    → front_bytes_with a f ≡ front_bytes_with b g → f ≡ g
one_with f g None None ea eb x y v w e =
    let tails = one_byte 1 1 (front_numbers f) (front_numbers g) e in
    let same = one_numbers f g [] [] x y (append-nil (front_numbers f) ∙ (tails.1 ∙ sym (append-nil (front_numbers g)))) in
    let first_is : f.first ≡ g.first = v.0 ∙ sym w.0 in
    let passed_is : f.passed ≡ g.passed = v.1 ∙ sym w.1 in
    let last_is : f.last ≡ g.last = ea ∙ sym eb in
    λ i. record { count = same.count i; file = same.file i; length = same.size i; closed = same.closed i; first = first_is i; passed = passed_is i; last = last_is i }
one_with f g None (Some key) ea eb x y v w e = absurd (omega (arith, (one_byte 1 2 (front_numbers f) (front_numbers g ++ (low_first 8 g.first ++ (low_first 8 g.passed ++ key_bytes key))) e).0))
one_with f g (Some key) None ea eb x y v w e = absurd (omega (arith, (one_byte 2 1 (front_numbers f ++ (low_first 8 f.first ++ (low_first 8 f.passed ++ key_bytes key))) (front_numbers g) e).0))
one_with f g (Some key) (Some other) ea eb x y v w e =
    let own : List ℕ = low_first 8 f.passed ++ key_bytes key in
    let its : List ℕ = low_first 8 g.passed ++ key_bytes other in
    let tails = one_byte 2 2 (front_numbers f ++ (low_first 8 f.first ++ own)) (front_numbers g ++ (low_first 8 g.first ++ its)) e in
    let same = one_numbers f g (low_first 8 f.first ++ own) (low_first 8 g.first ++ its) x y tails.1 in
    let af : f.first < 256 ^ 8 = omega (arith, x.upto, x.within, x.most) in
    let ag : g.first < 256 ^ 8 = omega (arith, y.upto, y.within, y.most) in
    let pf : f.passed < 256 ^ 8 = omega (arith, x.below, x.most) in
    let pg : g.passed < 256 ^ 8 = omega (arith, y.below, y.most) in
    let first_is = one_number 8 f.first g.first own its af ag same.behind in
    let passed_is = one_number 8 f.passed g.passed (key_bytes key) (key_bytes other) pf pg first_is.1 in
    let key_is = one_key key other [] [] v w (append-nil (key_bytes key) ∙ (passed_is.1 ∙ sym (append-nil (key_bytes other)))) in
    let last_is : f.last ≡ g.last = ea ∙ (ap (λ (k : Key). Some k) key_is.0 ∙ sym eb) in
    λ i. record { count = same.count i; file = same.file i; length = same.size i; closed = same.closed i; first = first_is.0 i; passed = passed_is.0 i; last = last_is i }

by_record : (r : Option CellRecord) (f g : Front) → MatchOption r (f ≡ no_front) (λ found. IsFrontRecord found f) → MatchOption r (g ≡ no_front) (λ found. IsFrontRecord found g) → f ≡ g
by_record None f g x y = x ∙ sym y
by_record (Some r) f g x y = one_with f g f.last g.last refl refl x.sound y.sound x.sound.version y.sound.version (sym x.payload ∙ y.payload)

pub image_has_one_front : ImageHasOneFront
image_has_one_front image f g x y = by_record (kept_record image) f g x.kept y.kept

pub count_is_one : CountIsOne
count_is_one plan other txns more count also image x y =
    sym x.counted ∙ (ap (λ (f : Front). f.count) (image_has_one_front image x.front y.front x.is_front y.is_front) ∙ y.counted)
