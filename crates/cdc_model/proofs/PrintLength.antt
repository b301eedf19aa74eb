-- How many bytes a print has, whatever its place, and where the next one begins.
use Rattle.std.proofs.Common.{◌≡◌, ℕ, zero, suc, ◌+◌, ◌/◌, ◌≤◌, List, [], ◌∷◌, ◌++◌, length, sum_by, length-append, append_assoc, append-nil, add-zero, ap, sym, refl, ◌∙◌, arith}
use Rattle.std.proofs.lemmas.List.Sums.{sum_by-cons}
use Rattle.cdc_base.specs.declared.rename.Rename.{Rename}
use Rattle.cdc_event.specs.declared.header.Header.{Header}
use Rattle.cdc_event.specs.Number.{low_first}
use Rattle.cdc_event.specs.Event.{header_bytes, body_bytes}
use Rattle.cdc_model.specs.Records.{Row, Transaction}
use Rattle.cdc_model.specs.Print.{row_length, printed_event, laid, printed_bytes, printed_events, printed_length}
use Rattle.cdc_model.specs.Output.{file_head, prints_at, file_with}

pub length_low_first : (width number : ℕ) → length (low_first width number) ≡ width
unfolding low_first
length_low_first zero number = refl
length_low_first (suc width) number = ap suc (length_low_first width (number / 256))

pub length_header : (header : Header) → length (header_bytes header) ≡ 19
unfolding header_bytes
length_header header = simp (length-append, length_low_first) refl

pub length_printed_event : (at seconds : ℕ) (event : Row) → length (printed_event at seconds event) ≡ row_length event
length_printed_event at seconds event =
    let header : Header = record {
      seconds = seconds;
      kind = event.0;
      server = 1;
      length = row_length event;
      next = at + row_length event;
      flags = 0;
    } in
    length-append (header_bytes header) (body_bytes event.1) ∙ ap (λ (n : ℕ). n + length (body_bytes event.1)) (length_header header)

pub length_laid : (at seconds : ℕ) (events : List Row) → length (laid at seconds events) ≡ sum_by row_length events
length_laid at seconds [] = refl
length_laid at seconds (event ∷ events) =
    length-append (printed_event at seconds event) (laid (at + row_length event) seconds events)
    ∙ ap (λ (n : ℕ). n + length (laid (at + row_length event) seconds events)) (length_printed_event at seconds event)
    ∙ ap (λ (n : ℕ). row_length event + n) (length_laid (at + row_length event) seconds events)
    ∙ sym (sum_by-cons row_length event events)

pub length_printed : (rules : List Rename) (txn : Transaction) (at : ℕ) → length (printed_bytes rules txn at) ≡ printed_length rules txn
length_printed rules txn at = length_laid at txn.seconds (printed_events rules txn)

-- ---- one print more

pub place_behind : (at first printed rest : ℕ) → first ≡ printed → (at + printed) + rest ≡ at + (first + rest)
place_behind at first printed rest is = omega arith

pub prints_more : (rules : List Rename) (at : ℕ) (txns : List Transaction) (txn : Transaction)
    → prints_at rules at (txns ++ txn ∷ []) ≡ prints_at rules at txns ++ printed_bytes rules txn (at + length (prints_at rules at txns))
prints_more rules at [] txn = append-nil (printed_bytes rules txn at) ∙ ap (printed_bytes rules txn) (sym (add-zero at))
prints_more rules at (first ∷ txns) txn =
    let behind : ℕ = at + printed_length rules first in
    let bytes : List ℕ = printed_bytes rules first at in
    let rest : List ℕ = prints_at rules behind txns in
    let place : behind + length rest ≡ at + length (bytes ++ rest) =
    place_behind at (length bytes) (printed_length rules first) (length rest) (length_printed rules first at)
    ∙ ap (λ (n : ℕ). at + n) (sym (length-append bytes rest)) in
    ap (λ (list : List ℕ). bytes ++ list) (prints_more rules behind txns txn)
    ∙ sym (append_assoc bytes rest (printed_bytes rules txn (behind + length rest)))
    ∙ ap (λ (n : ℕ). (bytes ++ rest) ++ printed_bytes rules txn n) place

pub file_more : (rules : List Rename) (txns : List Transaction) (txn : Transaction)
    → file_with rules (txns ++ txn ∷ []) ≡ file_with rules txns ++ printed_bytes rules txn (length (file_with rules txns))
file_more rules txns txn =
    let prints : List ℕ = prints_at rules (length file_head) txns in
    ap (λ (list : List ℕ). file_head ++ list) (prints_more rules (length file_head) txns txn)
    ∙ sym (append_assoc file_head prints (printed_bytes rules txn (length file_head + length prints)))
    ∙ ap (λ (n : ℕ). (file_head ++ prints) ++ printed_bytes rules txn n) (sym (length-append file_head prints))

pub file_begins : (rules : List Rename) (txns : List Transaction) → 1 ≤ length (file_with rules txns)
unfolding file_head
file_begins rules txns = omega arith
