-- Where a print goes, and what is written there.
use Rattle.std.proofs.Common.{◌≡◌, ℕ, ◌+◌, ◌^◌, ◌<◌, ◌≤◌, leb, ltb, Bool, true, false, IsTrue, not, ◌||◌, ◌==◌, if◌then◌else◌, List, [], ◌++◌, length, codes, decimal, length-append, ap, sym, subst, refl, ◌∙◌, arith}
use Rattle.std.proofs.lemmas.Fmt.{length-decimal-le}
use Rattle.cdc_base.specs.declared.rename.Rename.{Rename}
use Rattle.cdc_event.specs.declared.body.Body.TheVariants.{Rotate}
use Rattle.cdc_event.specs.Number.{low_first}
use Rattle.cdc_event.specs.Event.{FitsBody, body_bytes}
use Rattle.cdc_model.specs.declared.layout.Layout.{Layout}
use Rattle.cdc_model.specs.Layout.{HasRoom, begins_file, next_file}
use Rattle.cdc_model.specs.Records.{Transaction, OutputUnit}
use Rattle.cdc_model.specs.Print.{digits, row_length, printed_events, printed_bytes, printed_length}
use Rattle.cdc_model.specs.Output.{file_head, file_name, rotate_event}
use Rattle.cdc_model.specs.Unit.{print_place, unit_of, IsOutputStepFrom, UnitsAreSteps}
use Rattle.cdc_writer.specs.declared.spot.Spot.{Spot}
use Rattle.cdc_writer.specs.Events.{IsPrintable}
use Rattle.cdc_writer.specs.Spot.{spot_of}
use Rattle.cdc_writer.specs.Run.{run_at, unit_at}
use Rattle.cdc_writer.proofs.Bodies.{length-low_first, printed_size}
use Rattle.cdc_writer.proofs.HeadBytes.{head_size}
use Rattle.cdc_writer.proofs.Laid.{laid_size}
use Rattle.cdc_writer.proofs.Marks.{length-digits}

-- ---- places

abbrev spot_at : ℕ → ℕ → Bool → Bool → Spot
spot_at file at head closes = record { file = file; at = at; head = head; closes = closes }

pub spot_begun : (layout : Layout) (rotation size : ℕ) → true ≡ begins_file layout
    → spot_at (layout.file + 1) 123 true (leb rotation (123 + size)) ≡ spot_of layout rotation size
spot_begun layout rotation size begins = rw (← begins, head_size) refl

abbrev place_by : Bool → Layout → ℕ
place_by begins layout = if begins then length file_head else layout.length

place_by_most : (closed none : Bool) (layout : Layout) → (IsTrue (not closed) → layout.length < 2 ^ 30) → place_by (closed || none) layout ≤ 2 ^ 30
place_by_most true none layout room = rw head_size (omega arith)
place_by_most false true layout room = rw head_size (omega arith)
place_by_most false false layout room = omega (arith, room refl)

-- a print begins at 2^30 at most
pub place_most : (layout : Layout) (rotation size : ℕ) (spot : Spot) → HasRoom layout → spot ≡ spot_of layout rotation size → spot.at ≤ 2 ^ 30
place_most layout rotation size spot room is =
    let at : spot.at ≡ print_place layout = ap (λ (s : Spot). s.at) is in
    omega (arith, at, place_by_most layout.closed (layout.file == 0) layout room.size)

file_by_most : (begins : Bool) (layout : Layout) → layout.file < 2 ^ 63 → (if begins then layout.file + 1 else layout.file) ≤ 2 ^ 63
file_by_most true layout room = omega arith
file_by_most false layout room = omega arith

-- in a file whose number is 2^63 at most
pub file_most : (layout : Layout) (rotation size : ℕ) (spot : Spot) → HasRoom layout → spot ≡ spot_of layout rotation size → spot.file ≤ 2 ^ 63
file_most layout rotation size spot room is =
    let file : spot.file ≡ next_file layout = ap (λ (s : Spot). s.file) is in
    omega (arith, file, file_by_most (begins_file layout) layout room.file)

-- ---- the event that closes a file

long_or_short : (short : Bool) (number : ℕ) → number < 2 ^ 64 → length (if short then digits 6 number else decimal number) ≤ 20
long_or_short true number fits = omega (arith, length-digits 6 number)
long_or_short false number fits = length-decimal-le 20 number (omega arith) (omega arith) fits

name_short : (number : ℕ) → number < 2 ^ 64 → length (file_name number) ≤ 27
unfolding file_name
name_short number fits =
    omega (arith, long_or_short (ltb number 1000000) number fits, length-append (codes "binlog.") (if ltb number 1000000 then digits 6 number else decimal number))

rotate_size : (name : List ℕ) → row_length (4, Rotate 4 name) ≡ 27 + length name
unfolding body_bytes
rotate_size name = omega (arith, length-append (low_first 8 4) name, length-low_first 8 4)

rotate_fits : (name : List ℕ) → FitsBody (Rotate 4 name)
unfolding FitsBody
rotate_fits name = omega arith

pub rotate_printable : (at number : ℕ) (name : List ℕ) → at ≤ 2 ^ 31 → number < 2 ^ 64 → name ≡ file_name number → IsPrintable at (4, Rotate 4 name)
rotate_printable at number name low fits is =
    let short : length name ≤ 27 = omega (arith, ap length is, name_short number fits) in
    record {
      fits = rotate_fits name;
      kind = refl;
      most = omega (arith, rotate_size name, short);
      room = omega (arith, rotate_size name, short);
    }

rotate_most : (at number : ℕ) → number < 2 ^ 64 → length (rotate_event at number) ≤ 54
unfolding rotate_event
rotate_most at number fits =
    omega (arith, printed_size at 0 (4, Rotate 4 (file_name number)), rotate_size (file_name number), name_short number fits)

pub rotate_exact : (at number : ℕ) → length (rotate_event at number) ≡ 34 + length (if ltb number 1000000 then digits 6 number else decimal number)
unfolding rotate_event file_name
rotate_exact at number =
    omega (
      arith,
      printed_size at 0 (4, Rotate 4 (file_name number)),
      rotate_size (file_name number),
      length-append (codes "binlog.") (if ltb number 1000000 then digits 6 number else decimal number),
    )

-- ---- head, print and ROTATE

head_by_most : (begins : Bool) → length (if begins then file_head else []) ≤ 123
head_by_most true = rw head_size (omega arith)
head_by_most false = omega arith

rotate_by_most : (closes : Bool) (at number : ℕ) → number < 2 ^ 64 → length (if closes then rotate_event at number else []) ≤ 54
rotate_by_most true at number fits = rotate_most at number fits
rotate_by_most false at number fits = omega arith

module _ (rules : List Rename) (txn : Transaction) (spot : Spot) (run : List ℕ) where
  abbrev head_part : List ℕ
  head_part = if spot.head then file_head else []

  abbrev rotate_part : List ℕ
  rotate_part = if spot.closes then rotate_event (spot.at + printed_length rules txn) (spot.file + 1) else []

  -- a run is as long as a head, the greatest print and ROTATE at most
  pub run_most : run ≡ run_at rules txn spot → spot.file ≤ 2 ^ 63 → printed_length rules txn ≤ 2 ^ 28 → length run ≤ 2 ^ 30
  run_most is file most =
      let print : List ℕ = printed_bytes rules txn spot.at in
      omega (
        arith,
        ap length is,
        length-append head_part (print ++ rotate_part),
        length-append print rotate_part,
        laid_size spot.at txn.seconds (printed_events rules txn),
        head_by_most spot.head,
        rotate_by_most spot.closes (spot.at + printed_length rules txn) (spot.file + 1) (omega arith),
      )

  -- a run that begins a file has a head
  pub run_begins : run ≡ run_at rules txn spot → spot.head ≡ true → 123 ≤ length run
  run_begins is head =
      let print : List ℕ = printed_bytes rules txn spot.at in
      let part : length head_part ≡ 123 = ap (λ (b : Bool). length (if b then file_head else [])) head ∙ head_size in
      omega (arith, ap length is, length-append head_part (print ++ rotate_part), part)

-- a run is as long as its parts
pub run_size : (rules : List Rename) (txn : Transaction) (spot : Spot) (printed : ℕ) → printed ≡ printed_length rules txn
    → length (run_at rules txn spot)
    ≡ printed + (length (if spot.head then file_head else []) + length (if spot.closes then rotate_event (spot.at + printed) (spot.file + 1) else []))
run_size rules txn spot printed is =
    let head : List ℕ = if spot.head then file_head else [] in
    let print : List ℕ = printed_bytes rules txn spot.at in
    let rotate : List ℕ = if spot.closes then rotate_event (spot.at + printed_length rules txn) (spot.file + 1) else [] in
    rw is (omega (
      arith,
      length-append head (print ++ rotate),
      length-append print rotate,
      laid_size spot.at txn.seconds (printed_events rules txn),
    ))

-- the unit of the run at a transaction's spot is the transaction's
pub unit_is : (rules : List Rename) (rotation size : ℕ) (txn : Transaction) (before : Layout) (spot : Spot) (run : List ℕ) (unit : OutputUnit)
    → size ≡ printed_length rules txn → spot ≡ spot_of before rotation size → run ≡ run_at rules txn spot → unit ≡ unit_at txn before spot run
    → unit ≡ unit_of rules rotation txn before
unit_is rules rotation size txn before spot run unit length_is spot_is run_is is =
    is
    ∙ ap (λ (bytes : List ℕ). unit_at txn before spot bytes) run_is
    ∙ ap (λ (s : Spot). unit_at txn before s (run_at rules txn s)) (spot_is ∙ ap (spot_of before rotation) length_is)

pub unit_steps : (rules : List Rename) (rotation : ℕ) (txn : Transaction) (before : Layout) (unit : OutputUnit) → UnitsAreSteps
    → unit ≡ unit_of rules rotation txn before → IsOutputStepFrom rules rotation txn before unit
unit_steps rules rotation txn before unit law is = subst (IsOutputStepFrom rules rotation txn before) (sym is) (law rules rotation txn before)
