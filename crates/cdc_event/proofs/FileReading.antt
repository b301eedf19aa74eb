-- Bytes of a file are read in one way, and a file that grows keeps its events and its fault.
use Rattle.std.proofs.Common.{◌≡◌, ℕ, zero, suc, ◌+◌, ◌<◌, ◌≤◌, ◌==◌, ◌&&◌, not, Bool, true, false, IsTrue, List, [], ◌∷◌, ◌++◌, length, take, drop, refl, ap, sym, ◌∙◌, subst, arith, append_assoc, append-nil, length-append, Option, Some, None, ◌⊎◌, inl, inr}
use Rattle.cdc_event.specs.declared.header.Header.{Header}
use Rattle.cdc_event.specs.declared.body.Body.{Body}
use Rattle.cdc_event.specs.declared.body.Body.TheVariants.{Format, Query, Rotate, RowsQuery, TableMap, Rows, XaPrepare, Timestamp, Skipped}
use Rattle.cdc_event.specs.declared.body.Body.TheVariants.{Xid as XidEvent}
use Rattle.cdc_event.specs.declared.event.Event.{Event}
use Rattle.cdc_event.specs.declared.fault.EventFault.{EventFault}
use Rattle.cdc_event.specs.declared.fault.EventFault.TheVariants.{ShortLength, TooLong, BadBody, Compressed, BadFormat, Partial}
use Rattle.cdc_event.specs.declared.fault.FileFault.{FileFault}
use Rattle.cdc_event.specs.declared.fault.FileFault.TheVariants.{BadMagic, Event as EventIsFaulty}
use Rattle.cdc_event.specs.Number.{low_first}
use Rattle.cdc_event.specs.Event.{magic, header_bytes, has_kind, Encodes}
use Rattle.cdc_event.specs.Length.{HasGoodLength, HasLengthFault, least_length, kept_header, kept_bytes}
use Rattle.cdc_event.specs.Reading.{IsBodyOf, HasFault}
use Rattle.cdc_event.specs.File.{PlacedEvent, BeginsWith, setting_behind, is_misplaced, IsWhole, HasWholeFault, IsFaulty, by_length, by_body, IsUnfinished, in_header, in_body, AreEvents, AreFileEvents, AreEventsFrom, FilesHaveOneReading, LengthensFile, GrownFileContinues, RestIsRead}
use Rattle.cdc_event.proofs.Bodies.{test_cases}
use Rattle.cdc_event.proofs.Whole.{SameParts, same_parts, own_body}
use Rattle.cdc_event.proofs.Correspondence.{one_event as events_are_one, one_fault}

assoc : (xs ys zs : List ℕ) → (xs ++ ys) ++ zs ≡ xs ++ (ys ++ zs)
assoc xs ys zs = simp append_assoc

-- a header that stands in front of fewer bytes stands in front of more
pub begins_more : (bytes more : List ℕ) (header : Header) (rest : List ℕ) → BeginsWith bytes header rest → BeginsWith (bytes ++ more) header (rest ++ more)
begins_more bytes more header rest b = record {
  fits = b.fits;
  small = b.small;
  spelled = ap (λ v. v ++ more) b.spelled ∙ assoc (header_bytes header) rest more;
}

-- the same bytes begin with one header
pub one_header : (bytes others : List ℕ) (a b : Header) (rest more : List ℕ) → bytes ≡ others → BeginsWith bytes a rest → BeginsWith others b more → SameParts a b rest more
one_header bytes others a b rest more e x y = same_parts a b rest more x.fits x.small y.fits y.small (sym x.spelled ∙ (e ∙ y.spelled))

pub header_size : (header : Header) → length (header_bytes header) ≡ 19
unfolding header_bytes low_first
header_size header = refl

begins_size : (bytes : List ℕ) (header : Header) (rest : List ℕ) → BeginsWith bytes header rest → length bytes ≡ 19 + length rest
begins_size bytes header rest b =
    let size : length bytes ≡ length (header_bytes header) + length rest = ap length b.spelled ∙ length-append (header_bytes header) rest in
    let head : length (header_bytes header) ≡ 19 = header_size header in
    omega arith

-- two fronts of one list that have one length are one
pub one_front : (a b rest more : List ℕ) → length a ≡ length b → a ++ rest ≡ b ++ more → (a ≡ b) × (rest ≡ more)
one_front [] [] rest more l e = (refl, e)
one_front [] (y ∷ b) rest more l e = absurd (omega arith)
one_front (x ∷ a) [] rest more l e = absurd (omega arith)
one_front (x ∷ a) (y ∷ b) rest more l e =
    let head : x ≡ y = cc in
    let tail : a ++ rest ≡ b ++ more = cc in
    let shorter : length a ≡ length b = omega arith in
    let one = one_front a b rest more shorter tail in
    (λ i. head i ∷ one.0 i, one.1)

-- what two whole events at one place have in common
pub record SameWhole (a b : Event) (piece other rest more : List ℕ) : Type 0 where
  pub one_event : a ≡ b
  pub one_piece : piece ≡ other
  pub one_rest : rest ≡ more

pub one_whole : (first : Bool) (checksum : ℕ) (a b : Event) (piece other rest more : List ℕ) → piece ++ rest ≡ other ++ more →
    IsWhole first checksum piece a → IsWhole first checksum other b → SameWhole a b piece other rest more
one_whole first checksum a b piece other rest more e x y =
    let parts = one_header (piece ++ rest) (other ++ more) x.header y.header (x.body ++ rest) (y.body ++ more) e (begins_more piece rest x.header x.body x.begins) (begins_more other more y.header y.body y.begins) in
    let lengths : length piece ≡ length other = sym x.counted ∙ (ap (λ (h : Header). h.length) parts.header ∙ y.counted) in
    let one = one_front piece other rest more lengths e in
    let own = one_header piece other x.header y.header x.body y.body one.0 x.begins y.begins in
    let spelled : Encodes b (header_bytes (kept_header checksum x.header) ++ kept_bytes checksum x.header.kind x.body)
    = subst (λ (h : Header). Encodes b (header_bytes (kept_header checksum h) ++ kept_bytes checksum h.kind x.body)) (sym own.header)
    (subst (λ body. Encodes b (header_bytes (kept_header checksum y.header) ++ kept_bytes checksum y.header.kind body)) (sym own.behind) y.spelled) in
    record {
      one_event = events_are_one a b (header_bytes (kept_header checksum x.header) ++ kept_bytes checksum x.header.kind x.body) x.spelled spelled;
      one_piece = one.0;
      one_rest = one.1;
    }

-- a length isn't both good and faulty
good_or_not : (checksum : ℕ) (header : Header) (fault : EventFault) → HasGoodLength checksum header → HasLengthFault checksum header fault → ⊥
good_or_not checksum header (ShortLength length) g f = let least = g.least in let less = f.1 in absurd (omega arith)
good_or_not checksum header (TooLong length) g f = let most = g.most in let more = f.1 in absurd (omega arith)
good_or_not checksum header (BadBody kind) g f = f
good_or_not checksum header Compressed g f = f
good_or_not checksum header BadFormat g f = f
good_or_not checksum header Partial g f = f

least_small : (checksum kind : ℕ) → least_length checksum kind ≤ 23
least_small checksum kind = elim (test_cases ((checksum == 1) && not (kind == 15))) [
  | inl t ↦ let e : least_length checksum kind ≡ 23 = rw t refl in omega arith
  | inr t ↦ let e : least_length checksum kind ≡ 19 = rw t refl in omega arith
]

one_length_fault : (checksum : ℕ) (header : Header) (a b : EventFault) → HasLengthFault checksum header a → HasLengthFault checksum header b → a ≡ b
one_length_fault checksum header (ShortLength length) (ShortLength other) f g = ap ShortLength (f.0 ∙ sym g.0)
one_length_fault checksum header (ShortLength length) (TooLong other) f g =
    let small = least_small checksum header.kind in
    let less = f.1 in
    let more = g.1 in
    absurd (omega arith)
one_length_fault checksum header (TooLong length) (ShortLength other) f g =
    let small = least_small checksum header.kind in
    let less = g.1 in
    let more = f.1 in
    absurd (omega arith)
one_length_fault checksum header (TooLong length) (TooLong other) f g = ap TooLong (f.0 ∙ sym g.0)
one_length_fault checksum header (ShortLength length) (BadBody kind) f g = absurd g
one_length_fault checksum header (ShortLength length) Compressed f g = absurd g
one_length_fault checksum header (ShortLength length) BadFormat f g = absurd g
one_length_fault checksum header (ShortLength length) Partial f g = absurd g
one_length_fault checksum header (TooLong length) (BadBody kind) f g = absurd g
one_length_fault checksum header (TooLong length) Compressed f g = absurd g
one_length_fault checksum header (TooLong length) BadFormat f g = absurd g
one_length_fault checksum header (TooLong length) Partial f g = absurd g
one_length_fault checksum header (BadBody kind) b f g = absurd f
one_length_fault checksum header Compressed b f g = absurd f
one_length_fault checksum header BadFormat b f g = absurd f
one_length_fault checksum header Partial b f g = absurd f

-- it is in place or it isn't
placed_or_not : (test : Bool) → test ≡ false → test ≡ true → ⊥
placed_or_not test e f = cc

one_whole_fault : (first : Bool) (checksum : ℕ) (header : Header) (body : List ℕ) (a b : EventFault) → HasWholeFault first checksum header body a → HasWholeFault first checksum header body b → a ≡ b
one_whole_fault first checksum header body a b (inl f) (inl g) = f.1 ∙ sym g.1
one_whole_fault first checksum header body a b (inl f) (inr g) = absurd (placed_or_not (is_misplaced first header.kind) g.0 f.0)
one_whole_fault first checksum header body a b (inr f) (inl g) = absurd (placed_or_not (is_misplaced first header.kind) f.0 g.0)
one_whole_fault first checksum header body a b (inr f) (inr g) = one_fault header.kind (kept_bytes checksum header.kind body) a b f.1 g.1

no_test : false ≡ true → ⊥
no_test e = cc

not_39 : (body : Body) → IsTrue (has_kind body 39) → ⊥
not_39 (Format text created lengths checksum tail) t = no_test t
not_39 (Query thread seconds error status db text) t = no_test t
not_39 (Rotate position name) t = no_test t
not_39 (XidEvent number) t = no_test t
not_39 (RowsQuery size text) t = no_test t
not_39 (TableMap table flags db name rest) t = no_test t
not_39 (Rows bytes) t = no_test t
not_39 (XaPrepare one_phase xid) t = no_test t
not_39 (Timestamp class value) t = no_test t
not_39 (Skipped bytes) t = no_test t

not_40 : (body : Body) → IsTrue (has_kind body 40) → ⊥
not_40 (Format text created lengths checksum tail) t = no_test t
not_40 (Query thread seconds error status db text) t = no_test t
not_40 (Rotate position name) t = no_test t
not_40 (XidEvent number) t = no_test t
not_40 (RowsQuery size text) t = no_test t
not_40 (TableMap table flags db name rest) t = no_test t
not_40 (Rows bytes) t = no_test t
not_40 (XaPrepare one_phase xid) t = no_test t
not_40 (Timestamp class value) t = no_test t
not_40 (Skipped bytes) t = no_test t

-- no body stands under a refused type
no_kind : (body : Body) (kind : ℕ) → (kind ≡ 39) ⊎ (kind ≡ 40) → IsTrue (has_kind body kind) → ⊥
no_kind body kind (inl e) t = not_39 body (subst (λ n. IsTrue (has_kind body n)) e t)
no_kind body kind (inr e) t = not_40 body (subst (λ n. IsTrue (has_kind body n)) e t)

-- a body's bytes have no fault
body_or_fault : (kind : ℕ) (bytes : List ℕ) (body : Body) (fault : EventFault) → IsBodyOf kind bytes body → HasFault kind bytes fault → ⊥
body_or_fault kind bytes body (ShortLength length) h f = f
body_or_fault kind bytes body (TooLong length) h f = f
body_or_fault kind bytes body (BadBody of) h f = f.4 body h
body_or_fault kind bytes body Compressed h f = no_kind body kind (inr f) h.typed
body_or_fault kind bytes body BadFormat h f = f.1 body h
body_or_fault kind bytes body Partial h f = no_kind body kind (inl f) h.typed

whole_or_fault : (first : Bool) (checksum : ℕ) (piece : List ℕ) (event : Event) (header : Header) (body : List ℕ) (fault : EventFault) (whole : IsWhole first checksum piece event) →
    whole.header ≡ header → whole.body ≡ body → HasWholeFault first checksum header body fault → ⊥
whole_or_fault first checksum piece event header body fault whole h b (inl f) =
    placed_or_not (is_misplaced first header.kind) (ap (λ (v : Header). is_misplaced first v.kind) (sym h) ∙ whole.placed) f.0
whole_or_fault first checksum piece event header body fault whole h b (inr f) =
    let own = own_body checksum whole.header whole.body event whole.begins.fits whole.good whole.known whole.spelled in
    let here : HasFault whole.header.kind (kept_bytes checksum whole.header.kind whole.body) fault
    = subst (λ (v : Header). HasFault v.kind (kept_bytes checksum v.kind whole.body) fault) (sym h)
    (subst (λ v. HasFault header.kind (kept_bytes checksum header.kind v) fault) (sym b) f.1) in
    body_or_fault whole.header.kind (kept_bytes checksum whole.header.kind whole.body) event.body fault own.body here

-- where a whole event stands, nothing is wrong with more or less of the same bytes
pub whole_or_faulty : (first : Bool) (checksum : ℕ) (event : Event) (fault : EventFault) (piece rest bytes more : List ℕ) → piece ++ rest ≡ bytes ++ more →
    IsWhole first checksum piece event → IsFaulty first checksum bytes fault → ⊥
whole_or_faulty first checksum event fault piece rest bytes more e whole (by_length header behind begins wrong) =
    let parts = one_header (piece ++ rest) (bytes ++ more) whole.header header (whole.body ++ rest) (behind ++ more) e (begins_more piece rest whole.header whole.body whole.begins) (begins_more bytes more header behind begins) in
    good_or_not checksum header fault (subst (HasGoodLength checksum) parts.header whole.good) wrong
whole_or_faulty first checksum event fault piece rest bytes more e whole (by_body header body behind begins good counted wrong) =
    let parts = one_header (piece ++ rest) (bytes ++ more) whole.header header (whole.body ++ rest) ((body ++ behind) ++ more) e (begins_more piece rest whole.header whole.body whole.begins) (begins_more bytes more header (body ++ behind) begins) in
    let size : length piece ≡ 19 + length whole.body = begins_size piece whole.header whole.body whole.begins in
    let own : whole.header.length ≡ length piece = whole.counted in
    let lengths : whole.header.length ≡ header.length = ap (λ (h : Header). h.length) parts.header in
    let bodies : length whole.body ≡ length body = omega arith in
    let one = one_front whole.body body rest (behind ++ more) bodies (parts.behind ∙ assoc body behind more) in
    whole_or_fault first checksum piece event header body fault whole parts.header one.0 wrong

-- where a whole event stands, nothing is unfinished
pub whole_or_unfinished : (first : Bool) (checksum : ℕ) (event : Event) (piece rest bytes : List ℕ) → piece ++ rest ≡ bytes →
    IsWhole first checksum piece event → IsUnfinished checksum bytes → ⊥
whole_or_unfinished first checksum event piece rest bytes e whole (in_header short) =
    let size : length piece ≡ 19 + length whole.body = begins_size piece whole.header whole.body whole.begins in
    let all : length bytes ≡ length piece + length rest = ap length (sym e) ∙ length-append piece rest in
    absurd (omega arith)
whole_or_unfinished first checksum event piece rest bytes e whole (in_body header more begins good short) =
    let parts = one_header (piece ++ rest) bytes whole.header header (whole.body ++ rest) more e (begins_more piece rest whole.header whole.body whole.begins) begins in
    let own : whole.header.length ≡ length piece = whole.counted in
    let lengths : whole.header.length ≡ header.length = ap (λ (h : Header). h.length) parts.header in
    let all : length bytes ≡ length piece + length rest = ap length (sym e) ∙ length-append piece rest in
    absurd (omega arith)

-- where something is wrong, nothing is unfinished
pub faulty_or_unfinished : (first : Bool) (checksum : ℕ) (fault : EventFault) (bytes more : List ℕ) →
    IsFaulty first checksum bytes fault → IsUnfinished checksum (bytes ++ more) → ⊥
faulty_or_unfinished first checksum fault bytes more (by_length header behind begins wrong) (in_header short) =
    let size : length (bytes ++ more) ≡ 19 + length (behind ++ more) = begins_size (bytes ++ more) header (behind ++ more) (begins_more bytes more header behind begins) in
    absurd (omega arith)
faulty_or_unfinished first checksum fault bytes more (by_length header behind begins wrong) (in_body other rest starts good short) =
    let parts = one_header (bytes ++ more) (bytes ++ more) other header rest (behind ++ more) refl starts (begins_more bytes more header behind begins) in
    good_or_not checksum header fault (subst (HasGoodLength checksum) parts.header good) wrong
faulty_or_unfinished first checksum fault bytes more (by_body header body behind begins good counted wrong) (in_header short) =
    let size : length (bytes ++ more) ≡ 19 + length ((body ++ behind) ++ more) = begins_size (bytes ++ more) header ((body ++ behind) ++ more) (begins_more bytes more header (body ++ behind) begins) in
    absurd (omega arith)
faulty_or_unfinished first checksum fault bytes more (by_body header body behind begins good counted wrong) (in_body other rest starts fine short) =
    let parts = one_header (bytes ++ more) (bytes ++ more) other header rest ((body ++ behind) ++ more) refl starts (begins_more bytes more header (body ++ behind) begins) in
    let lengths : other.length ≡ header.length = ap (λ (h : Header). h.length) parts.header in
    let size : length (bytes ++ more) ≡ 19 + length ((body ++ behind) ++ more) = begins_size (bytes ++ more) header ((body ++ behind) ++ more) (begins_more bytes more header (body ++ behind) begins) in
    let one : length ((body ++ behind) ++ more) ≡ length (body ++ behind) + length more = length-append (body ++ behind) more in
    let two : length (body ++ behind) ≡ length body + length behind = length-append body behind in
    absurd (omega arith)

-- one thing is wrong with an event, however much follows
pub one_fault_here : (first : Bool) (checksum : ℕ) (a b : EventFault) (bytes more : List ℕ) →
    IsFaulty first checksum bytes a → IsFaulty first checksum (bytes ++ more) b → a ≡ b
one_fault_here first checksum a b bytes more (by_length header behind begins wrong) (by_length other rest starts bad) =
    let parts = one_header (bytes ++ more) (bytes ++ more) other header rest (behind ++ more) refl starts (begins_more bytes more header behind begins) in
    one_length_fault checksum header a b wrong (subst (λ h. HasLengthFault checksum h b) parts.header bad)
one_fault_here first checksum a b bytes more (by_length header behind begins wrong) (by_body other body rest starts good counted bad) =
    let parts = one_header (bytes ++ more) (bytes ++ more) other header (body ++ rest) (behind ++ more) refl starts (begins_more bytes more header behind begins) in
    absurd (good_or_not checksum header a (subst (HasGoodLength checksum) parts.header good) wrong)
one_fault_here first checksum a b bytes more (by_body header body behind begins good counted wrong) (by_length other rest starts bad) =
    let parts = one_header (bytes ++ more) (bytes ++ more) header other ((body ++ behind) ++ more) rest refl (begins_more bytes more header (body ++ behind) begins) starts in
    absurd (good_or_not checksum other b (subst (HasGoodLength checksum) parts.header good) bad)
one_fault_here first checksum a b bytes more (by_body header body behind begins good counted wrong) (by_body other own rest starts fine whole bad) =
    let parts = one_header (bytes ++ more) (bytes ++ more) header other ((body ++ behind) ++ more) (own ++ rest) refl (begins_more bytes more header (body ++ behind) begins) starts in
    let lengths : header.length ≡ other.length = ap (λ (h : Header). h.length) parts.header in
    let bodies : length own ≡ length body = omega arith in
    let one = one_front own body rest (behind ++ more) bodies (sym parts.behind ∙ assoc body behind more) in
    one_whole_fault first checksum header body a b wrong
    (subst (λ h. HasWholeFault first checksum h body b) (sym parts.header) (subst (λ v. HasWholeFault first checksum other v b) one.0 bad))

-- what is wrong stays wrong
pub faulty_more : (first : Bool) (checksum : ℕ) (fault : EventFault) (bytes more : List ℕ) → IsFaulty first checksum bytes fault → IsFaulty first checksum (bytes ++ more) fault
faulty_more first checksum fault bytes more (by_length header behind begins wrong) = by_length header (behind ++ more) (begins_more bytes more header behind begins) wrong
faulty_more first checksum fault bytes more (by_body header body behind begins good counted wrong) =
    let here = begins_more bytes more header (body ++ behind) begins in
    by_body header body (behind ++ more) (subst (BeginsWith (bytes ++ more) header) (assoc body behind more) here) good counted wrong

faulty_here : (place at : ℕ) (a b : EventFault) → place ≡ at → a ≡ b → ◌≡◌ {A = Option (ℕ × FileFault)} (Some (place, EventIsFaulty a)) (Some (at, EventIsFaulty b))
faulty_here place at a b e f = λ i. Some (e i, EventIsFaulty (f i))

-- the parts of a first event and what follows it
pub record BeginsSo (first : Bool) (at checksum : ℕ) (bytes : List ℕ) (placed : PlacedEvent) (events : List PlacedEvent) (fault : Option (ℕ × FileFault)) : Type 0 where
  pub piece : List ℕ
  pub rest : List ℕ
  pub cut : bytes ≡ piece ++ rest
  pub whole : IsWhole first checksum piece placed.event
  pub starts : placed.at ≡ at
  pub ends : placed.end ≡ at + length piece
  pub setting : placed.checksum ≡ setting_behind checksum placed.event.body
  pub behind : AreEvents false placed.end placed.checksum rest events fault

pub begins_so : (first : Bool) (at checksum : ℕ) (bytes : List ℕ) (placed : PlacedEvent) (events : List PlacedEvent) (fault : Option (ℕ × FileFault)) → AreEvents first at checksum bytes (placed ∷ events) fault → BeginsSo first at checksum bytes placed events fault
begins_so first at checksum bytes placed events fault a = record { piece = a.0; rest = a.1; cut = a.2; whole = a.3; starts = a.4; ends = a.5; setting = a.6; behind = a.7 }

-- the same event in the same bytes, shorter and longer, and what follows it in both
pub record SameFirst (placed other : PlacedEvent) (bytes more rest others : List ℕ) : Type 0 where
  pub one_placed : placed ≡ other
  pub one_behind : others ≡ rest ++ more

pub same_first : (first : Bool) (at checksum : ℕ) (bytes more : List ℕ) (placed other : PlacedEvent) (events longer : List PlacedEvent) (fault later : Option (ℕ × FileFault))
    (a : BeginsSo first at checksum bytes placed events fault) (b : BeginsSo first at checksum (bytes ++ more) other longer later) → SameFirst placed other bytes more a.rest b.rest
same_first first at checksum bytes more placed other events longer fault later a b =
    let cut : a.piece ++ (a.rest ++ more) ≡ b.piece ++ b.rest = sym (assoc a.piece a.rest more) ∙ (ap (λ v. v ++ more) (sym a.cut) ∙ b.cut) in
    let one = one_whole first checksum placed.event other.event a.piece b.piece (a.rest ++ more) b.rest cut a.whole b.whole in
    let starts : placed.at ≡ other.at = a.starts ∙ sym b.starts in
    let ends : placed.end ≡ other.end = a.ends ∙ (ap (λ v. at + length v) one.one_piece ∙ sym b.ends) in
    let setting : placed.checksum ≡ other.checksum = a.setting ∙ (ap (λ (e : Event). setting_behind checksum e.body) one.one_event ∙ sym b.setting) in
    record {
      one_placed = λ i. record { at = starts i; end = ends i; event = one.one_event i; checksum = setting i };
      one_behind = sym one.one_rest;
    }

lengthens_by : (placed other : PlacedEvent) (events longer : List PlacedEvent) (fault later : Option (ℕ × FileFault)) → placed ≡ other → LengthensFile events longer fault later → LengthensFile (placed ∷ events) (other ∷ longer) fault later
lengthens_by placed other events longer fault later e l = record { new = l.new; goes_on = λ i. (sym e) i ∷ l.goes_on i; stays = l.stays }

-- the events of more bytes begin with those of fewer, and a fault stays
pub grown : (first : Bool) (at checksum : ℕ) (bytes more : List ℕ) (events longer : List PlacedEvent) (fault later : Option (ℕ × FileFault)) →
    AreEvents first at checksum bytes events fault → AreEvents first at checksum (bytes ++ more) longer later → LengthensFile events longer fault later
grown first at checksum bytes more [] longer None later a b = record { new = longer; goes_on = refl; stays = λ n. absurd (n refl) }
grown first at checksum bytes more [] longer (Some (place, BadMagic)) later a b = absurd a
grown first at checksum bytes more [] [] (Some (place, EventIsFaulty wrong)) None a b = absurd (faulty_or_unfinished first checksum wrong bytes more a.1 b)
grown first at checksum bytes more [] [] (Some (place, EventIsFaulty wrong)) (Some (other, BadMagic)) a b = absurd b
grown first at checksum bytes more [] [] (Some (place, EventIsFaulty wrong)) (Some (other, EventIsFaulty bad)) a b =
    let same : bad ≡ wrong = sym (one_fault_here first checksum wrong bad bytes more a.1 b.1) in
    record { new = []; goes_on = refl; stays = λ n. (refl, faulty_here other place bad wrong (b.0 ∙ sym a.0) same) }
grown first at checksum bytes more [] (placed ∷ longer) (Some (place, EventIsFaulty wrong)) later a b =
    let s = begins_so first at checksum (bytes ++ more) placed longer later b in
    absurd (whole_or_faulty first checksum placed.event wrong s.piece s.rest bytes more (sym s.cut) s.whole a.1)
grown first at checksum bytes more (placed ∷ events) [] fault None a b =
    let s = begins_so first at checksum bytes placed events fault a in
    absurd (whole_or_unfinished first checksum placed.event s.piece (s.rest ++ more) (bytes ++ more) (sym (assoc s.piece s.rest more) ∙ ap (λ v. v ++ more) (sym s.cut)) s.whole b)
grown first at checksum bytes more (placed ∷ events) [] fault (Some (other, BadMagic)) a b = absurd b
grown first at checksum bytes more (placed ∷ events) [] fault (Some (other, EventIsFaulty bad)) a b =
    let s = begins_so first at checksum bytes placed events fault a in
    absurd (whole_or_faulty first checksum placed.event bad s.piece (s.rest ++ more) (bytes ++ more) [] (sym (assoc s.piece s.rest more) ∙ (ap (λ v. v ++ more) (sym s.cut) ∙ sym (append-nil (bytes ++ more)))) s.whole b.1)
grown first at checksum bytes more (placed ∷ events) (other ∷ longer) fault later a b =
    let s = begins_so first at checksum bytes placed events fault a in
    let t = begins_so first at checksum (bytes ++ more) other longer later b in
    let same = same_first first at checksum bytes more placed other events longer fault later s t in
    let here : AreEvents false placed.end placed.checksum (s.rest ++ more) longer later
    = subst (λ (p : PlacedEvent). AreEvents false p.end p.checksum (s.rest ++ more) longer later) (sym same.one_placed) (subst (λ v. AreEvents false other.end other.checksum v longer later) same.one_behind t.behind) in
    lengthens_by placed other events longer fault later same.one_placed (grown false placed.end placed.checksum s.rest more events longer fault later s.behind here)

-- four bytes that are there stay the first four
pub front_stays : (bytes more : List ℕ) → 4 ≤ length bytes → take 4 (bytes ++ more) ≡ take 4 bytes
front_stays [] more h = absurd (omega arith)
front_stays (a ∷ []) more h = absurd (omega arith)
front_stays (a ∷ b ∷ []) more h = absurd (omega arith)
front_stays (a ∷ b ∷ c ∷ []) more h = absurd (omega arith)
front_stays (a ∷ b ∷ c ∷ d ∷ bytes) more h = refl

pub more_length : (bytes more : List ℕ) → length bytes ≤ length (bytes ++ more)
more_length bytes more = let size : length (bytes ++ more) ≡ length bytes + length more = length-append bytes more in omega arith

pub begins_with_magic : (bytes more rest : List ℕ) → bytes ++ more ≡ magic ++ rest → 4 ≤ length bytes → take 4 bytes ≡ magic
begins_with_magic bytes more rest e h = sym (front_stays bytes more h) ∙ ap (take 4) e

pub magic_length : (bytes rest : List ℕ) → bytes ≡ magic ++ rest → 4 ≤ length bytes
magic_length bytes rest e = let size : length bytes ≡ length magic + length rest = ap length e ∙ length-append magic rest in omega arith

file_grown : (bytes more : List ℕ) (events longer : List PlacedEvent) (fault later : Option (ℕ × FileFault)) →
    AreFileEvents bytes events fault → AreFileEvents (bytes ++ more) longer later → LengthensFile events longer fault later
file_grown bytes more events longer fault later (inl a) b = record { new = longer; goes_on = ap (λ v. v ++ longer) (sym a.1); stays = λ n. absurd (n a.2) }
file_grown bytes more events longer fault later (inr (inl a)) (inl b) =
    let four : 4 ≤ length bytes = a.0 in
    let short : length (bytes ++ more) < 4 = b.0 in
    let size = more_length bytes more in
    absurd (omega arith)
file_grown bytes more events longer fault later (inr (inl a)) (inr (inl b)) = record { new = []; goes_on = b.2 ∙ (sym a.2 ∙ sym (append-nil events)); stays = λ n. (refl, b.3 ∙ sym a.3) }
file_grown bytes more events longer fault later (inr (inl a)) (inr (inr b)) = absurd (a.1 (begins_with_magic bytes more b.0 b.1 a.0))
file_grown bytes more events longer fault later (inr (inr a)) (inl b) =
    let four = magic_length bytes a.0 a.1 in
    let short : length (bytes ++ more) < 4 = b.0 in
    let size = more_length bytes more in
    absurd (omega arith)
file_grown bytes more events longer fault later (inr (inr a)) (inr (inl b)) =
    absurd (b.1 (front_stays bytes more (magic_length bytes a.0 a.1) ∙ ap (take 4) a.1))
file_grown bytes more events longer fault later (inr (inr a)) (inr (inr b)) =
    let joined : magic ++ (a.0 ++ more) ≡ magic ++ b.0 = ap (λ v. v ++ more) (sym a.1) ∙ b.1 in
    let rest : a.0 ++ more ≡ b.0 = ap (drop 4) joined in
    grown true 4 0 a.0 more events longer fault later a.2 (subst (λ v. AreEvents true 4 0 v longer later) (sym rest) b.2)

pub grown_file_continues : GrownFileContinues
grown_file_continues zero checksum bytes more events longer fault later a b = file_grown bytes more events longer fault later a b
grown_file_continues (suc at) checksum bytes more events longer fault later a b = grown false (suc at) checksum bytes more events longer fault later a b

none_new : (events others new old : List PlacedEvent) → others ≡ events ++ new → events ≡ others ++ old → events ≡ others
none_new events others [] old e f = sym (e ∙ append-nil events)
none_new events others (n ∷ new) old e f =
    let one : length others ≡ length events + length (n ∷ new) = ap length e ∙ length-append events (n ∷ new) in
    let two : length events ≡ length others + length old = ap length f ∙ length-append others old in
    absurd (omega arith)

pub some_fault : (place : ℕ × FileFault) → ◌≡◌ {A = Option (ℕ × FileFault)} (Some place) None → ⊥
some_fault place e = cc

one_end : (events others : List PlacedEvent) (fault other : Option (ℕ × FileFault)) → LengthensFile events others fault other → LengthensFile others events other fault → fault ≡ other
one_end events others None None a b = refl
one_end events others None (Some place) a b = (b.stays (some_fault place)).1
one_end events others (Some place) other a b = sym (a.stays (some_fault place)).1

pub one_reading : FilesHaveOneReading
one_reading at checksum bytes events others fault other a b =
    let l = grown_file_continues at checksum bytes [] events others fault other a (subst (λ v. AreEventsFrom at checksum v others other) (sym (append-nil bytes)) b) in
    let m = grown_file_continues at checksum bytes [] others events other fault b (subst (λ v. AreEventsFrom at checksum v events fault) (sym (append-nil bytes)) a) in
    (none_new events others l.new m.new l.goes_on m.goes_on, one_end events others fault other l m)

-- what is read behind an event's end
rest_events : (first : Bool) (at checksum : ℕ) (bytes : List ℕ) (before behind : List PlacedEvent) (placed : PlacedEvent) (fault : Option (ℕ × FileFault)) →
    AreEvents first at checksum bytes (before ++ placed ∷ behind) fault →
    (front rest : List ℕ) × (bytes ≡ front ++ rest) × (at + length front ≡ placed.end) × AreEvents false placed.end placed.checksum rest behind fault
rest_events first at checksum bytes [] behind placed fault a =
    let s = begins_so first at checksum bytes placed behind fault a in
    (s.piece, s.rest, s.cut, sym s.ends, s.behind)
rest_events first at checksum bytes (other ∷ before) behind placed fault a =
    let s = begins_so first at checksum bytes other (before ++ placed ∷ behind) fault a in
    let r = rest_events false other.end other.checksum s.rest before behind placed fault s.behind in
    let size : length (s.piece ++ r.0) ≡ length s.piece + length r.0 = length-append s.piece r.0 in
    let ends : other.end ≡ at + length s.piece = s.ends in
    let there : other.end + length r.0 ≡ placed.end = r.3 in
    (s.piece ++ r.0, r.1, s.cut ∙ (ap (λ v. s.piece ++ v) r.2 ∙ sym (assoc s.piece r.0 r.1)), omega arith, r.4)

none_before : (before behind : List PlacedEvent) (placed : PlacedEvent) → before ++ placed ∷ behind ≡ [] → ⊥
none_before [] behind placed e = cc
none_before (other ∷ before) behind placed e = cc

pub rest_is_read : RestIsRead
rest_is_read zero checksum bytes before behind placed fault (inl a) = absurd (none_before before behind placed a.1)
rest_is_read zero checksum bytes before behind placed fault (inr (inl a)) = absurd (none_before before behind placed a.2)
rest_is_read zero checksum bytes before behind placed fault (inr (inr a)) =
    let r = rest_events true 4 0 a.0 before behind placed fault a.2 in
    let size : length (magic ++ r.0) ≡ length magic + length r.0 = length-append magic r.0 in
    let there : 4 + length r.0 ≡ placed.end = r.3 in
    (magic ++ r.0, r.1, a.1 ∙ ap (λ v. magic ++ v) r.2, omega arith, r.4)
rest_is_read (suc at) checksum bytes before behind placed fault a = rest_events false (suc at) checksum bytes before behind placed fault a
