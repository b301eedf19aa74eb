-- The bytes of an event's body, where they stand in the bytes that aren't cut.
use Rattle.std.proofs.Common.{◌≡◌, ◌≤◌, ◌<◌, ℕ, zero, suc, ◌+◌, ◌-◌, min, Bool, true, false, List, ◌++◌, length, take, drop, ap, sym, ◌∙◌, arith, length-append}
use Rattle.std.proofs.lemmas.List.{length-take, take_all, take_min, drop_at, take-append-le, drop-append-le, length-drop}
use Rattle.cdc_base.specs.declared.place.Place.{Place}
use Rattle.cdc_event.specs.declared.event.Event.{Event}
use Rattle.cdc_event.specs.declared.fault.FileFault.{FileFault}
use Rattle.cdc_event.specs.Event.{header_bytes, body_bytes}
use Rattle.cdc_event.specs.Length.{tail_length, without_last, kept_header, kept_bytes}
use Rattle.cdc_event.specs.File.{IsWhole}
use Rattle.cdc_event.proofs.FileReading.{header_size}
use Rattle.cdc_cutter.specs.declared.state.CutterState.{CutterState}
use Rattle.cdc_cutter.specs.declared.state.CutterState.TheVariants.{Start, First, Behind, Faulty}
use Rattle.cdc_cutter.specs.declared.cut.Cut.TheVariants.{Event as GivesEvent, Need, Fault as GivesFault}
use Rattle.cdc_cutter.specs.Cutting.{Cutting, Cuts}
use Rattle.cdc_model.specs.Row.{IsRow}
use Rattle.cdc_group.specs.Taking.{WholeEventsAreTaken}

-- a list without its last items is a front of it
front_again : (less : ℕ) (bytes : List ℕ) → take (length (without_last less bytes)) bytes ≡ without_last less bytes
front_again zero bytes = take_all (length bytes) bytes (omega arith)
front_again (suc less) bytes =
    ap (λ (n : ℕ). take n bytes) (length-take (length bytes - suc less) bytes) ∙ take_min (length bytes - suc less) bytes

-- where the body of an event stands in its bytes
pub record HasBody (bytes : List ℕ) (event : Event) : Type 0 where
  pub least : 19 ≤ event.header.length
  pub most : event.header.length ≤ length bytes
  pub is : take (event.header.length - 19) (drop 19 bytes) ≡ body_bytes event.body

pub body_in_piece : (first : Bool) (checksum : ℕ) (piece : List ℕ) (event : Event) → IsWhole first checksum piece event → HasBody piece event
body_in_piece first checksum piece event whole =
    let kept : List ℕ = kept_bytes checksum whole.header.kind whole.body in
    let head : length (header_bytes whole.header) ≡ 19 = header_size whole.header in
    let kept_head : length (header_bytes (kept_header checksum whole.header)) ≡ 19 = header_size (kept_header checksum whole.header) in
    let own_head : length (header_bytes event.header) ≡ 19 = header_size event.header in
    let behind : drop 19 piece ≡ whole.body = ap (drop 19) whole.begins.spelled ∙ drop_at (header_bytes whole.header) whole.body 19 head in
    let same : kept ≡ body_bytes event.body =
    sym (drop_at (header_bytes (kept_header checksum whole.header)) kept 19 kept_head) ∙ ap (drop 19) whole.spelled.spelled
    ∙ drop_at (header_bytes event.header) (body_bytes event.body) 19 own_head in
    let counted : event.header.length ≡ 19 + length (body_bytes event.body) = whole.spelled.fits.whole in
    let size : length (body_bytes event.body) ≡ length kept = ap length (sym same) in
    let there : length piece ≡ length (header_bytes whole.header) + length whole.body =
    ap length whole.begins.spelled ∙ length-append (header_bytes whole.header) whole.body in
    let shorter : length (take (length kept) whole.body) ≡ min (length kept) (length whole.body) = length-take (length kept) whole.body in
    let again : take (length kept) whole.body ≡ kept = front_again (tail_length checksum whole.header.kind) whole.body in
    let same_length : length (take (length kept) whole.body) ≡ length kept = ap length again in
    let left : event.header.length - 19 ≡ length kept = omega arith in
    record {
      least = omega arith;
      most = omega arith;
      is = ap (take (event.header.length - 19)) behind ∙ ap (λ (n : ℕ). take n whole.body) left ∙ again ∙ same;
    }

-- the same where more bytes stand behind
pub body_in_front : (piece rest bytes : List ℕ) (event : Event) → bytes ≡ piece ++ rest → HasBody piece event → HasBody bytes event
body_in_front piece rest bytes event is body =
    let least : 19 ≤ event.header.length = body.least in
    let most : event.header.length ≤ length piece = body.most in
    let size : length bytes ≡ length piece + length rest = ap length is ∙ length-append piece rest in
    let short : 19 ≤ length piece = omega arith in
    let left : length (drop 19 piece) ≡ length piece - 19 = length-drop 19 piece in
    let within : event.header.length - 19 ≤ length (drop 19 piece) = omega arith in
    record {
      least = least;
      most = omega arith;
      is = ap (λ (list : List ℕ). take (event.header.length - 19) (drop 19 list)) is
          ∙ ap (take (event.header.length - 19)) (drop-append-le 19 piece rest short)
          ∙ take-append-le (event.header.length - 19) (drop 19 piece) rest within
          ∙ body.is;
    }

-- what the cutter says of an event that it sees: where its body stands, that it is one of its type, and that its bytes are passed
pub record IsSeenThere (old new : Cutting) (at end : Place) (event : Event) : Type 0 where
  pub body : HasBody old.rest event
  pub row : IsRow (event.header.kind, event.body)
  pub shorter : length new.rest < length old.rest

no_need : (at end : Place) (event : Event) (setting : ℕ) → GivesEvent at end event setting ≡ Need → ⊥
no_need at end event setting e = cc

no_fault : (at end place : Place) (event : Event) (setting : ℕ) (fault : FileFault) → GivesEvent at end event setting ≡ GivesFault place fault → ⊥
no_fault at end place event setting fault e = cc

seen_whole : WholeEventsAreTaken → (first : Bool) (old new : Cutting) (at end : Place) (event : Event) (piece rest : List ℕ) → old.rest ≡ piece ++ rest
    → IsWhole first old.checksum piece event → new.rest ≡ rest → IsSeenThere old new at end event
seen_whole law first old new at end event piece rest is whole left =
    let body : HasBody piece event = body_in_piece first old.checksum piece event whole in
    let least : 19 ≤ event.header.length = body.least in
    let most : event.header.length ≤ length piece = body.most in
    let size : length old.rest ≡ length piece + length rest = ap length is ∙ length-append piece rest in
    let later : length new.rest ≡ length rest = ap length left in
    record {
      body = body_in_front piece rest old.rest event is body;
      row = law first old.checksum piece event whole;
      shorter = omega arith;
    }

pub seen_there : WholeEventsAreTaken → (state : CutterState) (old new : Cutting) (at end : Place) (event : Event) (setting : ℕ)
    → Cuts state old new (GivesEvent at end event setting) → IsSeenThere old new at end event
seen_there law Start old new at end event setting cuts = absurd (no_need at end event setting cuts.0)
seen_there law First old new at end event setting cuts =
    seen_whole law true old new at end event cuts.0 cuts.1 cuts.2 cuts.3 (ap (λ (c : Cutting). c.rest) cuts.7)
seen_there law Behind old new at end event setting cuts =
    seen_whole law false old new at end event cuts.0 cuts.1 cuts.2 cuts.3 (ap (λ (c : Cutting). c.rest) cuts.7)
seen_there law (Faulty fault) old new at end event setting cuts =
    absurd (no_fault at end record { file = old.file; at = old.at } event setting fault cuts.0)
