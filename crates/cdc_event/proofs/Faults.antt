-- Which fault is answered, and that it is answered exactly there.
use Rattle.std.proofs.Common.{◌≡◌, ℕ, ◌==◌, ◌++◌, false, List, refl, ap, sym, ◌∙◌, subst, arith, None, Result, Ok, Err, IsOk, IfOk, inl, inr}
use Rattle.std.proofs.lemmas.Bool.Decides.{nat_tests}
use Rattle.cdc_event.specs.declared.header.Header.{Header}
use Rattle.cdc_event.specs.declared.event.Event.{Event}
use Rattle.cdc_event.specs.declared.fault.EventFault.{EventFault}
use Rattle.cdc_event.specs.declared.fault.EventFault.TheVariants.{ShortLength, TooLong, BadBody, Compressed, BadFormat, Partial}
use Rattle.cdc_event.specs.declared.fault.ReadError.{ReadError}
use Rattle.cdc_event.specs.declared.fault.ReadError.TheVariants.{Fault, Memory}
use Rattle.cdc_event.specs.Length.{tail_length, kept_header, kept_bytes}
use Rattle.cdc_event.specs.Event.{header_bytes, Encodes}
use Rattle.cdc_event.specs.Reading.{HasKnownAlgorithm, IsNoBody, HasFault, body_at, fault_of, event_with, event_of, Gives}
use Rattle.cdc_event.proofs.Numbers.{AreBytes}
use Rattle.cdc_event.proofs.Bodies.{test_cases, is_kind}
use Rattle.cdc_event.proofs.Whole.{Premises, encoded, known_algorithm, with_err, no_body, unread_kind, shortened_kind, kept_are_bytes}

is_other : (kind known : ℕ) → (kind == known) ≡ false → kind ≡ known → ⊥
is_other kind known t k = grind (arith, nat_tests)

other_test : (kind known : ℕ) → (kind ≡ known → ⊥) → (kind == known) ≡ false
other_test kind known n = elim (test_cases (kind == known)) [ inl t ↦ absurd (n (is_kind kind known t)) | inr t ↦ t ]

pub fault_stands : (kind : ℕ) (bytes : List ℕ) → IsNoBody kind bytes → HasFault kind bytes (fault_of kind)
fault_stands kind bytes n =
    elim (test_cases (kind == 40)) [
      | inl t ↦ let f : fault_of kind ≡ Compressed = rw t refl in subst (HasFault kind bytes) (sym f) (is_kind kind 40 t)
      | inr a ↦ elim (test_cases (kind == 39)) [
        | inl t ↦ let f : fault_of kind ≡ Partial = rw (a, t) refl in subst (HasFault kind bytes) (sym f) (is_kind kind 39 t)
        | inr b ↦ elim (test_cases (kind == 15)) [
          | inl t ↦ let f : fault_of kind ≡ BadFormat = rw (a, b, t) refl in subst (HasFault kind bytes) (sym f) (is_kind kind 15 t, n)
          | inr c ↦ let f : fault_of kind ≡ BadBody kind = rw (a, b, c) refl in subst (HasFault kind bytes) (sym f) (refl, is_other kind 15 c, is_other kind 39 b, is_other kind 40 a, n)
        ]
      ]
    ]

-- a fault is the one that the type names
pub fault_named : (kind : ℕ) (bytes : List ℕ) (fault : EventFault) → HasFault kind bytes fault → fault_of kind ≡ fault
fault_named kind bytes (ShortLength l) f = absurd f
fault_named kind bytes (TooLong l) f = absurd f
fault_named kind bytes (BadBody of) f =
    let a = other_test kind 40 f.3 in
    let b = other_test kind 39 f.2 in
    let c = other_test kind 15 f.1 in
    let same : fault_of kind ≡ BadBody kind = rw (a, b, c) refl in
    same ∙ ap BadBody (sym f.0)
fault_named kind bytes Compressed f = subst (λ n. fault_of n ≡ Compressed) (sym f) refl
fault_named kind bytes BadFormat f = subst (λ n. fault_of n ≡ BadFormat) (sym f.0) refl
fault_named kind bytes Partial f = subst (λ n. fault_of n ≡ Partial) (sym f) refl

pub fault_of_none : (kind : ℕ) (bytes : List ℕ) (fault : EventFault) → AreBytes bytes → HasFault kind bytes fault → (body_at kind bytes ≡ None) × (fault_of kind ≡ fault)
unfolding body_at
fault_of_none kind bytes (ShortLength l) h f = absurd f
fault_of_none kind bytes (TooLong l) h f = absurd f
fault_of_none kind bytes (BadBody of) h f = (unread_kind kind bytes (body_at kind bytes) h refl f.4, fault_named kind bytes (BadBody of) f)
fault_of_none kind bytes Compressed h f = (subst (λ n. body_at n bytes ≡ None) (sym f) refl, fault_named kind bytes Compressed f)
fault_of_none kind bytes BadFormat h f = (unread_kind kind bytes (body_at kind bytes) h refl f.1, fault_named kind bytes BadFormat f)
fault_of_none kind bytes Partial h f = (subst (λ n. body_at n bytes ≡ None) (sym f) refl, fault_named kind bytes Partial f)

pub fault_to : (checksum : ℕ) (header : Header) (bytes : List ℕ) (fault : EventFault) → event_of checksum header bytes ≡ Err fault → HasFault header.kind (kept_bytes checksum header.kind bytes) fault
fault_to checksum header bytes fault e =
    let w = with_err (kept_header checksum header) (body_at header.kind (kept_bytes checksum header.kind bytes)) fault e in
    let n = no_body header.kind (kept_bytes checksum header.kind bytes) w.0 in
    let f : fault_of header.kind ≡ fault = ap fault_of (sym (shortened_kind (tail_length checksum header.kind) header)) ∙ w.1 in
    subst (HasFault header.kind (kept_bytes checksum header.kind bytes)) f (fault_stands header.kind (kept_bytes checksum header.kind bytes) n)

pub fault_from : (checksum : ℕ) (header : Header) (bytes : List ℕ) (fault : EventFault) → AreBytes bytes → HasFault header.kind (kept_bytes checksum header.kind bytes) fault → event_of checksum header bytes ≡ Err fault
fault_from checksum header bytes fault h f =
    let w = fault_of_none header.kind (kept_bytes checksum header.kind bytes) fault (kept_are_bytes (tail_length checksum header.kind) bytes h) f in
    let k : fault_of (kept_header checksum header).kind ≡ fault = ap fault_of (shortened_kind (tail_length checksum header.kind) header) ∙ w.1 in
    ap (λ r. event_with (kept_header checksum header) r) w.0 ∙ ap Err k

pub gives_event : (result : Result Event ReadError) (checksum : ℕ) (header : Header) (bytes : List ℕ) → Premises checksum header bytes → Gives result (event_of checksum header bytes) → IfOk result (λ event. Encodes event (header_bytes (kept_header checksum header) ++ kept_bytes checksum header.kind bytes))
gives_event (Ok event) checksum header bytes p g = encoded checksum header bytes event p g
gives_event (Err error) checksum header bytes p g = tt

pub gives_known : (result : Result Event ReadError) (checksum : ℕ) (header : Header) (bytes : List ℕ) → Premises checksum header bytes → Gives result (event_of checksum header bytes) → IfOk result (λ event. HasKnownAlgorithm event.body)
gives_known (Ok event) checksum header bytes p g = known_algorithm checksum header bytes event p g
gives_known (Err error) checksum header bytes p g = tt

pub gives_fault : (result : Result Event ReadError) (read : Result Event EventFault) (fault : EventFault) → Gives result read → result ≡ Err (Fault fault) → read ≡ Err fault
gives_fault result read fault g e = let P : Result Event ReadError → Type 0 = λ r. Gives r read in subst P e g

failed : (fault : EventFault) (read : Result Event EventFault) → read ≡ Err fault → IsOk read → ⊥
failed fault (Ok event) e o = absurd (cc)
failed fault (Err other) e o = absurd (cc)

pub fault_given : (result : Result Event ReadError) (read : Result Event EventFault) (fault : EventFault) → Gives result read → read ≡ Err fault → result ≡ Err (Fault fault)
fault_given (Ok event) read fault g e = absurd (cc)
fault_given (Err (Fault other)) read fault g e = let same : other ≡ fault = cc in ap (λ f. Err (Fault f)) same
fault_given (Err Memory) read fault g e = absurd (failed fault read e g)
