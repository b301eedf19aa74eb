-- What is seen at the front of some bytes is the event that they are, or its fault.
use Rattle.std.proofs.Common.{◌≡◌, ◌≤◌, ℕ, Bool, false, List, length, drop, refl, sym, arith, Result, Ok, Err}
use Rattle.std.specs.Prelude.{MatchResult}
use Rattle.std.specs.List.{slice_range}
use Rattle.cdc_base.specs.Bytes.{AreBytes}
use Rattle.cdc_event.specs.declared.header.Header.{Header}
use Rattle.cdc_event.specs.declared.event.Event.{Event}
use Rattle.cdc_event.specs.declared.fault.EventFault.{EventFault}
use Rattle.cdc_event.specs.declared.fault.ReadError.{ReadError}
use Rattle.cdc_event.specs.declared.view.EventView.{EventView}
use Rattle.cdc_event.specs.File.{BeginsWith, is_misplaced, IsFaulty}
use Rattle.cdc_event.specs.{HasGoodLength, event_of, event_viewed, result_viewed}
use Rattle.cdc_event.proofs.Fields.{range_bytes}
use Rattle.cdc_event.proofs.Whole.{Premises}
use Rattle.cdc_event.proofs.Faults.{gives_event, gives_known, fault_to}
use Rattle.cdc_event.proofs.FilePieces.{parts, whole_event, whole_fault}
use Rattle.cdc_cutter.specs.Looks.{IsSeen}

pub viewed : (first : Bool) (checksum : ℕ) (bytes : List ℕ) (header : Header) (read : Result EventView EventFault) → AreBytes bytes → BeginsWith bytes header (drop 19 bytes) →
    HasGoodLength checksum header → header.length ≤ length bytes → is_misplaced first header.kind ≡ false →
    result_viewed read ≡ event_of checksum header (slice_range bytes 19 header.length) →
    MatchResult read (λ view. IsSeen first checksum bytes header (event_viewed view)) (IsFaulty first checksum bytes)
viewed first checksum bytes header (Ok view) each begins good most placed e =
    let least = good.least in
    let here = parts bytes header begins (omega arith) most in
    let body = slice_range bytes 19 header.length in
    let whole : Premises checksum header body = record { good = good; whole = here.body; fits = begins.fits; bytes_are = range_bytes bytes 19 header.length (record { below = each }) } in
    let event : Result Event ReadError = Ok (event_viewed view) in
    whole_event event first checksum bytes body header begins good most refl placed
    (gives_event event checksum header body whole (sym e)) (gives_known event checksum header body whole (sym e))
viewed first checksum bytes header (Err fault) each begins good most placed e =
    whole_fault first checksum bytes (slice_range bytes 19 header.length) header fault begins good most refl placed
    (fault_to checksum header (slice_range bytes 19 header.length) fault (sym e))
