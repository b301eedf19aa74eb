-- Each list of bytes has events and an end.
use Rattle.std.proofs.Common.{◌≡◌, ℕ, zero, suc, ◌+◌, ◌-◌, ◌<◌, ◌≤◌, ◌^◌, nat_lt, ◌==◌, Bool, true, false, List, [], ◌∷◌, ◌++◌, length, take, drop, get_or, refl, ap, sym, ◌∙◌, subst, arith, length-drop, Option, Some, None, Ok, ◌⊎◌, inl, inr}
use Rattle.std.specs.List.{slice_range}
use Rattle.std.proofs.lemmas.Bool.Decides.{nat_tests}
use Rattle.std.proofs.lemmas.List.{length-take, take-append-drop}
use Rattle.cdc_event.specs.declared.header.Header.{Header}
use Rattle.cdc_event.specs.declared.body.Body.{Body}
use Rattle.cdc_event.specs.declared.event.Event.{Event}
use Rattle.cdc_event.specs.declared.fault.EventFault.{EventFault}
use Rattle.cdc_event.specs.declared.fault.EventFault.TheVariants.{ShortLength, TooLong, BadFormat}
use Rattle.cdc_event.specs.declared.fault.FileFault.{FileFault}
use Rattle.cdc_event.specs.declared.fault.FileFault.TheVariants.{BadMagic, Event as EventIsFaulty}
use Rattle.cdc_event.specs.Number.{number_of}
use Rattle.cdc_event.specs.Event.{magic, header_bytes}
use Rattle.cdc_event.specs.Length.{HasGoodLength, HasLengthFault, least_length, kept_header, kept_bytes}
use Rattle.cdc_event.specs.Reading.{body_at, fault_of, event_of}
use Rattle.cdc_event.specs.File.{PlacedEvent, BeginsWith, setting_behind, is_misplaced, IsWhole, IsFaulty, by_length, IsUnfinished, in_header, in_body, AreEvents, EachIsRead}
use Rattle.cdc_event.proofs.Numbers.{AreBytes}
use Rattle.cdc_event.proofs.Fields.{take_bytes, drop_bytes, range_bytes, number_bound}
use Rattle.cdc_event.proofs.HeaderBytes.{header_spelled}
use Rattle.cdc_event.proofs.Bodies.{test_cases}
use Rattle.cdc_event.proofs.Whole.{Premises, encoded, known_algorithm, no_body}
use Rattle.cdc_event.proofs.Faults.{fault_stands}
use Rattle.cdc_event.proofs.FilePieces.{parts, misplaced, whole_fault, whole_event}

header_in : List ℕ → Header
header_in bytes = record {
  seconds = number_of (slice_range bytes 0 4);
  kind = get_or bytes 4 0;
  server = number_of (slice_range bytes 5 9);
  length = number_of (slice_range bytes 9 13);
  next = number_of (slice_range bytes 13 17);
  flags = number_of (slice_range bytes 17 19);
}

begins_here : (bytes : List ℕ) → AreBytes bytes → 19 ≤ length bytes → BeginsWith bytes (header_in (take 19 bytes)) (drop 19 bytes)
unfolding header_bytes header_in
begins_here bytes h most =
    let front = take_bytes 19 bytes h in
    let size : length (take 19 bytes) ≡ 19 = omega (arith, length-take 19 bytes) in
    record {
      fits = record {
        seconds = number_bound 4 (take 19 bytes) 0 front (omega arith);
        kind = front.below 4;
        server = number_bound 4 (take 19 bytes) 5 front (omega arith);
        next = number_bound 4 (take 19 bytes) 13 front (omega arith);
        flags = number_bound 2 (take 19 bytes) 17 front (omega arith);
      };
      small = number_bound 4 (take 19 bytes) 9 front (omega arith);
      spelled = sym (take-append-drop 19 bytes) ∙ ap (λ v. v ++ drop 19 bytes) (sym (header_spelled (take 19 bytes) front size));
    }

length_is : (checksum : ℕ) (header : Header) → HasGoodLength checksum header ⊎ ((fault : EventFault) × HasLengthFault checksum header fault)
length_is checksum header = elim (test_cases (nat_lt header.length (least_length checksum header.kind))) [
  | inl t ↦ inr (ShortLength header.length, (refl, grind (arith, nat_tests, t)))
  | inr t ↦ elim (test_cases (nat_lt (2 ^ 27) header.length)) [
    | inl s ↦ inr (TooLong header.length, (refl, grind (arith, nat_tests, s)))
    | inr s ↦ inl (record { least = grind (arith, nat_tests, t); most = grind (arith, nat_tests, s) })
  ]
]

-- what stands where an event may begin
data Front (first : Bool) (checksum : ℕ) (bytes : List ℕ) : Type 0 where
  unfinished : IsUnfinished checksum bytes → Front first checksum bytes
  faulty : (fault : EventFault) → IsFaulty first checksum bytes fault → Front first checksum bytes
  whole : (size : ℕ) (event : Event) → 19 ≤ size → size ≤ length bytes → IsWhole first checksum (take size bytes) event → Front first checksum bytes

front_with : (first : Bool) (checksum : ℕ) (bytes : List ℕ) (header : Header) (read : Option Body) → AreBytes bytes → BeginsWith bytes header (drop 19 bytes) → HasGoodLength checksum header → header.length ≤ length bytes →
    is_misplaced first header.kind ≡ false → body_at header.kind (kept_bytes checksum header.kind (slice_range bytes 19 header.length)) ≡ read → Front first checksum bytes
front_with first checksum bytes header None h b good most m e =
    let none = no_body header.kind (kept_bytes checksum header.kind (slice_range bytes 19 header.length)) e in
    faulty (fault_of header.kind) (whole_fault first checksum bytes (slice_range bytes 19 header.length) header (fault_of header.kind) b good most refl m (fault_stands header.kind (kept_bytes checksum header.kind (slice_range bytes 19 header.length)) none))
front_with first checksum bytes header (Some body) h b good most m e =
    let least = good.least in
    let p = parts bytes header b (omega arith) most in
    let premises : Premises checksum header (slice_range bytes 19 header.length) = record { good = good; whole = p.body; fits = b.fits; bytes_are = range_bytes bytes 19 header.length h } in
    let event : Event = record { header = kept_header checksum header; body = body } in
    let read : event_of checksum header (slice_range bytes 19 header.length) ≡ Ok event = rw e refl in
    whole header.length event (omega arith) most
    (whole_event {E = ℕ} (Ok event) first checksum bytes (slice_range bytes 19 header.length) header b good most refl m
    (encoded checksum header (slice_range bytes 19 header.length) event premises read)
    (known_algorithm checksum header (slice_range bytes 19 header.length) event premises read))

front_at : (first : Bool) (checksum : ℕ) (bytes : List ℕ) (header : Header) → AreBytes bytes → BeginsWith bytes header (drop 19 bytes) → Front first checksum bytes
front_at first checksum bytes header h b = elim (length_is checksum header) [
  | inr f ↦ faulty f.0 (by_length header (drop 19 bytes) b f.1)
  | inl good ↦ elim (test_cases (nat_lt (length bytes) header.length)) [
    | inl t ↦ unfinished (in_body header (drop 19 bytes) b good (grind (arith, nat_tests, t)))
    | inr t ↦ let most : header.length ≤ length bytes = grind (arith, nat_tests, t) in
        elim (test_cases (is_misplaced first header.kind)) [
          | inl m ↦ faulty BadFormat (misplaced first checksum bytes header b good most m)
          | inr m ↦ front_with first checksum bytes header (body_at header.kind (kept_bytes checksum header.kind (slice_range bytes 19 header.length))) h b good most m refl
        ]
  ]
]

front_is : (first : Bool) (checksum : ℕ) (bytes : List ℕ) → AreBytes bytes → Front first checksum bytes
front_is first checksum bytes h = elim (test_cases (nat_lt (length bytes) 19)) [
  | inl t ↦ unfinished (in_header (grind (arith, nat_tests, t)))
  | inr t ↦ let least : 19 ≤ length bytes = grind (arith, nat_tests, t) in front_at first checksum bytes (header_in (take 19 bytes)) h (begins_here bytes h least)
]

-- some events, and an end
Read : Bool → ℕ → ℕ → List ℕ → Type 0
Read first at checksum bytes = (events : List PlacedEvent) × (fault : Option (ℕ × FileFault)) × AreEvents first at checksum bytes events fault

read_from : (room : ℕ) (first : Bool) (at checksum : ℕ) (bytes : List ℕ) → AreBytes bytes → length bytes < room → Read first at checksum bytes
unfolding Read
read_from zero first at checksum bytes h less = absurd (omega arith)
read_from (suc room) first at checksum bytes h less = elim (front_is first checksum bytes h) [
  | unfinished u ↦ ([], None, u)
  | faulty fault f ↦ ([], Some (at, EventIsFaulty fault), (refl, f))
  | whole size event least most w ↦
      let taken : size ≡ length (take size bytes) = omega (arith, length-take size bytes) in
      let left : length (drop size bytes) ≡ length bytes - size = length-drop size bytes in
      let placed : PlacedEvent = record { at = at; end = at + size; event = event; checksum = setting_behind checksum event.body } in
      let rest = read_from room false (at + size) (setting_behind checksum event.body) (drop size bytes) (drop_bytes size bytes h) (omega arith) in
      (placed ∷ rest.0, rest.1, (take size bytes, drop size bytes, sym (take-append-drop size bytes), w, refl, ap (λ n. at + n) taken, refl, rest.2))
]

-- the first four bytes are the magic or not
data Four (bytes : List ℕ) : Type 0 where
  short : length bytes < 4 → Four bytes
  begins : (rest : List ℕ) → bytes ≡ magic ++ rest → Four bytes
  differs : 4 ≤ length bytes → (take 4 bytes ≡ magic → ⊥) → Four bytes

four_with : (a b c d : ℕ) (rest : List ℕ) → Four (a ∷ b ∷ c ∷ d ∷ rest)
four_with a b c d rest = elim (test_cases (a == 254)) [
  | inr t ↦ differs (omega arith) (λ e. let f : a ≡ 254 = cc in grind (arith, nat_tests, t, f))
  | inl p ↦ elim (test_cases (b == 98)) [
    | inr t ↦ differs (omega arith) (λ e. let f : b ≡ 98 = cc in grind (arith, nat_tests, t, f))
    | inl q ↦ elim (test_cases (c == 105)) [
      | inr t ↦ differs (omega arith) (λ e. let f : c ≡ 105 = cc in grind (arith, nat_tests, t, f))
      | inl r ↦ elim (test_cases (d == 110)) [
        | inr t ↦ differs (omega arith) (λ e. let f : d ≡ 110 = cc in grind (arith, nat_tests, t, f))
        | inl s ↦
            let ea : a ≡ 254 = grind (arith, nat_tests, p) in
            let eb : b ≡ 98 = grind (arith, nat_tests, q) in
            let ec : c ≡ 105 = grind (arith, nat_tests, r) in
            let ed : d ≡ 110 = grind (arith, nat_tests, s) in
            begins rest (λ i. ea i ∷ eb i ∷ ec i ∷ ed i ∷ rest)
      ]
    ]
  ]
]

four : (bytes : List ℕ) → Four bytes
four [] = short (omega arith)
four (a ∷ []) = short (omega arith)
four (a ∷ b ∷ []) = short (omega arith)
four (a ∷ b ∷ c ∷ []) = short (omega arith)
four (a ∷ b ∷ c ∷ d ∷ rest) = four_with a b c d rest

bytes_behind : (bytes rest : List ℕ) → AreBytes bytes → bytes ≡ magic ++ rest → AreBytes rest
bytes_behind bytes rest h e = subst AreBytes (ap (drop 4) e) (drop_bytes 4 bytes h)

pub each_is_read : EachIsRead
unfolding Read
each_is_read zero checksum bytes h = elim (four bytes) [
  | short s ↦ ([], None, inl (s, refl, refl))
  | differs l n ↦ ([], Some (0, BadMagic), inr (inl (l, n, refl, refl)))
  | begins rest e ↦ let r = read_from (suc (length rest)) true 4 0 rest (bytes_behind bytes rest (record { below = h }) e) (omega arith) in (r.0, r.1, inr (inr (rest, e, r.2)))
]
each_is_read (suc at) checksum bytes h = read_from (suc (length bytes)) false (suc at) checksum bytes (record { below = h }) (omega arith)
