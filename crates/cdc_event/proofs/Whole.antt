-- Whole events: a header and a body.
use Rattle.std.proofs.Common.{◌≡◌, ℕ, zero, suc, ◌+◌, ◌-◌, ◌<◌, ◌≤◌, ◌^◌, IsTrue, List, ◌∷◌, ◌++◌, length, drop, get_or, refl, ap, sym, ◌∙◌, subst, arith, append_assoc, Option, Some, None, Ok, Err}
use Rattle.std.specs.List.{slice_range}
use Rattle.std.proofs.lemmas.List.{length-take}
use Rattle.cdc_event.specs.declared.header.Header.{Header}
use Rattle.cdc_event.specs.declared.body.Body.{Body}
use Rattle.cdc_event.specs.declared.event.Event.{Event}
use Rattle.cdc_event.specs.declared.fault.EventFault.{EventFault}
use Rattle.cdc_event.specs.Number.{low_first, number_of}
use Rattle.cdc_event.specs.Length.{tail_length, HasGoodLength, shortened, without_last, kept_header, kept_bytes}
use Rattle.cdc_event.specs.Event.{header_bytes, body_bytes, has_kind, FitsHeader, Encodes}
use Rattle.cdc_event.specs.Reading.{HasKnownAlgorithm, IsBodyOf, IsNoBody, body_at, fault_of, event_with, event_of}
use Rattle.cdc_event.proofs.Numbers.{AreBytes}
use Rattle.cdc_event.proofs.Fields.{take_bytes, read_at, byte_at}
use Rattle.cdc_event.proofs.Kept.{front_is}
use Rattle.cdc_event.proofs.Bodies.{body_spelled, body_again}

-- a header that is spelled, field by field, and what stands behind it
pub record HeaderAt (header : Header) (bytes rest : List ℕ) : Type 0 where
  pub seconds : number_of (slice_range bytes 0 4) ≡ header.seconds
  pub kind : get_or bytes 4 0 ≡ header.kind
  pub server : number_of (slice_range bytes 5 9) ≡ header.server
  pub length : number_of (slice_range bytes 9 13) ≡ header.length
  pub next : number_of (slice_range bytes 13 17) ≡ header.next
  pub flags : number_of (slice_range bytes 17 19) ≡ header.flags
  pub behind : drop 19 bytes ≡ rest

pub header_at : (header : Header) (bytes rest : List ℕ) → FitsHeader header → header.length < 2 ^ 32 → bytes ≡ header_bytes header ++ rest → HeaderAt header bytes rest
unfolding header_bytes
header_at header bytes rest h l e =
    let regrouped : bytes ≡ low_first 4 header.seconds ++ (header.kind ∷ (low_first 4 header.server ++ (low_first 4 header.length ++ (low_first 4 header.next ++ (low_first 2 header.flags ++ rest)))))
    = e ∙ simp append_assoc in
    let w0 = read_at 4 header.seconds bytes _ 0 h.seconds regrouped in
    let w1 = byte_at header.kind bytes _ 4 w0.behind in
    let w2 = read_at 4 header.server bytes _ 5 h.server w1.behind in
    let w3 = read_at 4 header.length bytes _ 9 l w2.behind in
    let w4 = read_at 4 header.next bytes _ 13 h.next w3.behind in
    let w5 = read_at 2 header.flags bytes _ 17 h.flags w4.behind in
    record { seconds = w0.here; kind = w1.here; server = w2.here; length = w3.here; next = w4.here; flags = w5.here; behind = w5.behind }

same_header : (a b : Header) (bytes rest more : List ℕ) → HeaderAt a bytes rest → HeaderAt b bytes more → a ≡ b
same_header a b bytes rest more x y =
    let s : a.seconds ≡ b.seconds = sym x.seconds ∙ y.seconds in
    let k : a.kind ≡ b.kind = sym x.kind ∙ y.kind in
    let v : a.server ≡ b.server = sym x.server ∙ y.server in
    let l : a.length ≡ b.length = sym x.length ∙ y.length in
    let n : a.next ≡ b.next = sym x.next ∙ y.next in
    let f : a.flags ≡ b.flags = sym x.flags ∙ y.flags in
    λ i. record { seconds = s i; kind = k i; server = v i; length = l i; next = n i; flags = f i }

-- headers and what stands behind them, from the same bytes
pub record SameParts (a b : Header) (rest more : List ℕ) : Type 0 where
  pub header : a ≡ b
  pub behind : rest ≡ more

pub same_parts : (a b : Header) (rest more : List ℕ) → FitsHeader a → a.length < 2 ^ 32 → FitsHeader b → b.length < 2 ^ 32 → header_bytes a ++ rest ≡ header_bytes b ++ more → SameParts a b rest more
same_parts a b rest more fa la fb lb e =
    let x = header_at a (header_bytes a ++ rest) rest fa la refl in
    let y = header_at b (header_bytes a ++ rest) more fb lb e in
    record { header = same_header a b (header_bytes a ++ rest) rest more x y; behind = sym x.behind ∙ y.behind }

pub shortened_kind : (less : ℕ) (header : Header) → (shortened less header).kind ≡ header.kind
shortened_kind zero header = refl
shortened_kind (suc less) header = refl

pub shortened_length : (less : ℕ) (header : Header) → (shortened less header).length ≡ header.length - less
shortened_length zero header = omega arith
shortened_length (suc less) header = refl

pub shortened_fits : (less : ℕ) (header : Header) → FitsHeader header → FitsHeader (shortened less header)
shortened_fits zero header h = h
shortened_fits (suc less) header h = record { seconds = h.seconds; kind = h.kind; server = h.server; next = h.next; flags = h.flags }

pub kept_are_bytes : (less : ℕ) (bytes : List ℕ) → AreBytes bytes → AreBytes (without_last less bytes)
kept_are_bytes zero bytes h = h
kept_are_bytes (suc less) bytes h = take_bytes (length bytes - suc less) bytes h

pub kept_size : (less : ℕ) (bytes : List ℕ) → length (without_last less bytes) ≡ length bytes - less
kept_size less bytes = ap length (front_is less bytes) ∙ omega (arith, length-take (length bytes - less) bytes)

-- which event it is, where there is one
pub record IsWith (header : Header) (read : Option Body) (event : Event) : Type 0 where
  pub header_is : event.header ≡ header
  pub body_is : read ≡ Some event.body

pub with_ok : (header : Header) (read : Option Body) (event : Event) → event_with header read ≡ Ok event → IsWith header read event
with_ok header None event e = absurd (cc)
with_ok header (Some body) event e =
    let same : record { header = header; body = body } ≡ event = cc in
    record { header_is = sym (ap (λ v. v.header) same); body_is = ap (λ v. Some v.body) same }

pub with_err : (header : Header) (read : Option Body) (fault : EventFault) → event_with header read ≡ Err fault → (read ≡ None) × (fault_of header.kind ≡ fault)
with_err header None fault e = (refl, cc)
with_err header (Some body) fault e = absurd (cc)

-- what the premises of a reading are
pub record Premises (checksum : ℕ) (header : Header) (bytes : List ℕ) : Type 0 where
  pub good : HasGoodLength checksum header
  pub whole : header.length ≡ 19 + length bytes
  pub fits : FitsHeader header
  pub bytes_are : AreBytes bytes

pub encoded : (checksum : ℕ) (header : Header) (bytes : List ℕ) (event : Event) → Premises checksum header bytes → event_of checksum header bytes ≡ Ok event → Encodes event (header_bytes (kept_header checksum header) ++ kept_bytes checksum header.kind bytes)
encoded checksum header bytes event p e =
    let less = tail_length checksum header.kind in
    let w = with_ok (kept_header checksum header) (body_at header.kind (kept_bytes checksum header.kind bytes)) event e in
    let b = body_spelled header.kind (kept_bytes checksum header.kind bytes) event.body (kept_are_bytes less bytes p.bytes_are) w.body_is in
    let kind : event.header.kind ≡ header.kind = ap (λ (v : Header). v.kind) w.header_is ∙ shortened_kind less header in
    let size : event.header.length ≡ header.length - less = ap (λ (v : Header). v.length) w.header_is ∙ shortened_length less header in
    let kept : length (kept_bytes checksum header.kind bytes) ≡ length bytes - less = kept_size less bytes in
    let spelled : length (kept_bytes checksum header.kind bytes) ≡ length (body_bytes event.body) = ap length b.spelled in
    let least : 19 + less ≤ header.length = p.good.least in
    let most : header.length ≤ 2 ^ 27 = p.good.most in
    let whole : header.length ≡ 19 + length bytes = p.whole in
    record {
      fits = record {
        header = subst FitsHeader (sym w.header_is) (shortened_fits less header p.fits);
        body = b.fits;
        kind = subst (λ k. IsTrue (has_kind event.body k)) (sym kind) b.typed;
        whole = omega arith;
        most = omega arith;
      };
      spelled = ap (λ v. header_bytes v ++ kept_bytes checksum header.kind bytes) (sym w.header_is) ∙ ap (λ v. header_bytes event.header ++ v) b.spelled;
    }

pub known_algorithm : (checksum : ℕ) (header : Header) (bytes : List ℕ) (event : Event) → Premises checksum header bytes → event_of checksum header bytes ≡ Ok event → HasKnownAlgorithm event.body
known_algorithm checksum header bytes event p e =
    let w = with_ok (kept_header checksum header) (body_at header.kind (kept_bytes checksum header.kind bytes)) event e in
    let b = body_spelled header.kind (kept_bytes checksum header.kind bytes) event.body (kept_are_bytes (tail_length checksum header.kind) bytes p.bytes_are) w.body_is in
    b.algorithm

-- the body of an event that is spelled without its checksum
pub record OwnBody (checksum : ℕ) (header : Header) (bytes : List ℕ) (event : Event) : Type 0 where
  pub head : kept_header checksum header ≡ event.header
  pub body : IsBodyOf header.kind (kept_bytes checksum header.kind bytes) event.body

pub own_body : (checksum : ℕ) (header : Header) (bytes : List ℕ) (event : Event) → FitsHeader header → HasGoodLength checksum header → HasKnownAlgorithm event.body → Encodes event (header_bytes (kept_header checksum header) ++ kept_bytes checksum header.kind bytes) → OwnBody checksum header bytes event
own_body checksum header bytes event fits good known e =
    let less = tail_length checksum header.kind in
    let size : (kept_header checksum header).length ≡ header.length - less = shortened_length less header in
    let most : header.length ≤ 2 ^ 27 = good.most in
    let most_too : event.header.length ≤ 2 ^ 27 + 256 = e.fits.most in
    let parts = same_parts (kept_header checksum header) event.header (kept_bytes checksum header.kind bytes) (body_bytes event.body) (shortened_fits less header fits) (omega arith) e.fits.header (omega arith) e.spelled in
    let kind : event.header.kind ≡ header.kind = ap (λ (v : Header). v.kind) (sym parts.header) ∙ shortened_kind less header in
    record {
      head = parts.header;
      body = record {
        fits = e.fits.body;
        typed = subst (λ k. IsTrue (has_kind event.body k)) kind e.fits.kind;
        algorithm = known;
        spelled = parts.behind;
      };
    }

pub read_so : (checksum : ℕ) (header : Header) (bytes : List ℕ) (event : Event) → Premises checksum header bytes → HasKnownAlgorithm event.body → Encodes event (header_bytes (kept_header checksum header) ++ kept_bytes checksum header.kind bytes) → event_of checksum header bytes ≡ Ok event
read_so checksum header bytes event p known e =
    let own = own_body checksum header bytes event p.fits p.good known e in
    let read : body_at header.kind (kept_bytes checksum header.kind bytes) ≡ Some event.body = body_again header.kind (kept_bytes checksum header.kind bytes) event.body own.body in
    ap (λ r. event_with (kept_header checksum header) r) read ∙ ap (λ h. Ok record { header = h; body = event.body }) own.head

pub no_body : (kind : ℕ) (bytes : List ℕ) → body_at kind bytes ≡ None → IsNoBody kind bytes
no_body kind bytes e = λ body own. let read : body_at kind bytes ≡ Some body = body_again kind bytes body own in absurd (cc)

pub unread_kind : (kind : ℕ) (bytes : List ℕ) (read : Option Body) → AreBytes bytes → body_at kind bytes ≡ read → IsNoBody kind bytes → read ≡ None
unread_kind kind bytes None h e n = refl
unread_kind kind bytes (Some body) h e n = absurd (n body (body_spelled kind bytes body h e))
