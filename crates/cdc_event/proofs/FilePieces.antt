-- A whole event at the front of some bytes, cut off.
use Rattle.std.proofs.Common.{◌≡◌, ℕ, ◌+◌, ◌-◌, ◌≤◌, Bool, true, false, List, ◌++◌, length, take, drop, refl, ap, sym, ◌∙◌, subst, arith, length-drop, Result, Ok, Err, IfOk, inl, inr}
use Rattle.std.specs.List.{slice_range}
use Rattle.std.proofs.lemmas.List.{length-take, take-append-drop, take-append-le}
use Rattle.std.proofs.lemmas.List.Folds.{drop_split}
use Rattle.std.proofs.Math.Seq.{take-append_seam, take-append-add}
use Rattle.cdc_event.specs.declared.header.Header.{Header}
use Rattle.cdc_event.specs.declared.event.Event.{Event}
use Rattle.cdc_event.specs.declared.fault.EventFault.{EventFault}
use Rattle.cdc_event.specs.declared.fault.EventFault.TheVariants.{BadFormat}
use Rattle.cdc_event.specs.Event.{header_bytes, Encodes}
use Rattle.cdc_event.specs.Length.{HasGoodLength, kept_header, kept_bytes}
use Rattle.cdc_event.specs.Reading.{HasKnownAlgorithm, HasFault}
use Rattle.cdc_event.specs.File.{BeginsWith, is_misplaced, IsWhole, IsFaulty, by_body}
use Rattle.cdc_event.proofs.FileReading.{header_size}

-- a header that stands in front of bytes stands in front of fewer, where these have as many bytes as it
pub begins_less : (front tail more : List ℕ) (header : Header) → BeginsWith (front ++ tail) header more → 19 ≤ length front → BeginsWith front header (drop 19 front)
begins_less front tail more header b h =
    let size : length (header_bytes header) ≡ 19 = header_size header in
    let here : take 19 (header_bytes header ++ more) ≡ header_bytes header = ap (λ n. take n (header_bytes header ++ more)) (sym size) ∙ take-append_seam (header_bytes header) more in
    let there : take 19 front ≡ header_bytes header = sym (take-append-le 19 front tail h) ∙ (ap (take 19) b.spelled ∙ here) in
    record {
      fits = b.fits;
      small = b.small;
      spelled = sym (take-append-drop 19 front) ∙ ap (λ v. v ++ drop 19 front) there;
    }

-- a whole event's bytes: its header, its body, and what follows
pub record Parts (bytes : List ℕ) (header : Header) : Type 0 where
  pub begins : BeginsWith (take header.length bytes) header (slice_range bytes 19 header.length)
  pub goes_on : BeginsWith bytes header (slice_range bytes 19 header.length ++ drop header.length bytes)
  pub counted : header.length ≡ length (take header.length bytes)
  pub body : header.length ≡ 19 + length (slice_range bytes 19 header.length)

pub parts : (bytes : List ℕ) (header : Header) → BeginsWith bytes header (drop 19 bytes) → 19 ≤ header.length → header.length ≤ length bytes → Parts bytes header
parts bytes header b least most =
    let size : length (header_bytes header) ≡ 19 = header_size header in
    let cut : slice_range bytes 19 header.length ++ drop header.length bytes ≡ drop 19 bytes = sym (drop_split bytes 19 header.length least) in
    let sum : header.length ≡ length (header_bytes header) + (header.length - 19) = omega arith in
    let front : take header.length bytes ≡ header_bytes header ++ slice_range bytes 19 header.length
    = ap (take header.length) b.spelled ∙ (ap (λ n. take n (header_bytes header ++ drop 19 bytes)) sum ∙ take-append-add (header_bytes header) (drop 19 bytes) (header.length - 19)) in
    let taken : length (take header.length bytes) ≡ header.length = omega (arith, length-take header.length bytes) in
    let left : length (drop 19 bytes) ≡ length bytes - 19 = length-drop 19 bytes in
    record {
      begins = record { fits = b.fits; small = b.small; spelled = front };
      goes_on = record { fits = b.fits; small = b.small; spelled = b.spelled ∙ ap (λ v. header_bytes header ++ v) (sym cut) };
      counted = sym taken;
      body = omega (arith, length-take (header.length - 19) (drop 19 bytes));
    }

pub misplaced : (first : Bool) (checksum : ℕ) (bytes : List ℕ) (header : Header) → BeginsWith bytes header (drop 19 bytes) → HasGoodLength checksum header → header.length ≤ length bytes →
    is_misplaced first header.kind ≡ true → IsFaulty first checksum bytes BadFormat
misplaced first checksum bytes header b good most m =
    let least = good.least in
    let p = parts bytes header b (omega arith) most in
    by_body header (slice_range bytes 19 header.length) (drop header.length bytes) p.goes_on good p.body (inl (m, refl))

pub whole_fault : (first : Bool) (checksum : ℕ) (bytes body : List ℕ) (header : Header) (fault : EventFault) → BeginsWith bytes header (drop 19 bytes) → HasGoodLength checksum header → header.length ≤ length bytes →
    body ≡ slice_range bytes 19 header.length → is_misplaced first header.kind ≡ false → HasFault header.kind (kept_bytes checksum header.kind body) fault → IsFaulty first checksum bytes fault
whole_fault first checksum bytes body header fault b good most e m f =
    let least = good.least in
    let p = parts bytes header b (omega arith) most in
    by_body header (slice_range bytes 19 header.length) (drop header.length bytes) p.goes_on good p.body (inr (m, subst (λ v. HasFault header.kind (kept_bytes checksum header.kind v) fault) e f))

pub whole_event : {E : Type 0} (result : Result Event E) (first : Bool) (checksum : ℕ) (bytes body : List ℕ) (header : Header) → BeginsWith bytes header (drop 19 bytes) → HasGoodLength checksum header → header.length ≤ length bytes →
    body ≡ slice_range bytes 19 header.length → is_misplaced first header.kind ≡ false →
    IfOk result (λ event. Encodes event (header_bytes (kept_header checksum header) ++ kept_bytes checksum header.kind body)) → IfOk result (λ event. HasKnownAlgorithm event.body) →
    IfOk result (IsWhole first checksum (take header.length bytes))
whole_event (Ok event) first checksum bytes body header b good most e m spelled known =
    let least = good.least in
    let p = parts bytes header b (omega arith) most in
    record {
      header = header;
      body = slice_range bytes 19 header.length;
      begins = p.begins;
      counted = p.counted;
      good = good;
      placed = m;
      known = known;
      spelled = subst (λ v. Encodes event (header_bytes (kept_header checksum header) ++ kept_bytes checksum header.kind v)) e spelled;
    }
whole_event (Err error) first checksum bytes body header b good most e m spelled known = tt
