-- How long an event is, and what stands in it, where events end with a checksum.
use Rattle.std.specs.Prelude.{◌≡◌, ◌<◌, ℕ, zero, suc, ◌+◌, ◌-◌, ◌^◌, ◌≤◌, ◌==◌, ◌&&◌, not, if◌then◌else◌, List, length, take}
use Rattle.cdc_event.specs.declared.header.Header.{Header}
use Rattle.cdc_event.specs.declared.fault.EventFault.{EventFault}
use Rattle.cdc_event.specs.declared.fault.EventFault.TheVariants.{ShortLength, TooLong, BadBody, Compressed, BadFormat, Partial}

-- the bytes of the checksum at an event's end: under setting 1 each event has one but a format event, whose checksum is part of its body
abbrev pub tail_length : ℕ → ℕ → ℕ
tail_length checksum kind = if (checksum == 1) && not (kind == 15) then 4 else 0

-- the fewest bytes of an event: its header and its checksum
abbrev pub least_length : ℕ → ℕ → ℕ
least_length checksum kind = 19 + tail_length checksum kind

-- a length that an event may have
pub record HasGoodLength (checksum : ℕ) (header : Header) : Type 0 where
  pub least : least_length checksum header.kind ≤ header.length
  pub most : header.length ≤ 2 ^ 27

-- what is wrong with the length of an event
abbrev pub HasLengthFault : ℕ → Header → EventFault → Type 0
HasLengthFault checksum header (ShortLength length) = (length ≡ header.length) × (header.length < least_length checksum header.kind)
HasLengthFault checksum header (TooLong length) = (length ≡ header.length) × (2 ^ 27 < header.length)
HasLengthFault checksum header (BadBody kind) = ⊥
HasLengthFault checksum header Compressed = ⊥
HasLengthFault checksum header BadFormat = ⊥
HasLengthFault checksum header Partial = ⊥

-- a header with so much less in its length
abbrev pub shortened : ℕ → Header → Header
shortened zero header = header
shortened (suc less) header = record header { length = header.length - suc less }

-- a list without its last items
abbrev pub without_last : ℕ → List ℕ → List ℕ
without_last zero bytes = bytes
without_last (suc less) bytes = take (length bytes - suc less) bytes

-- the header without the checksum's bytes in its length
abbrev pub kept_header : ℕ → Header → Header
kept_header checksum header = shortened (tail_length checksum header.kind) header

-- the body without the checksum
abbrev pub kept_bytes : ℕ → ℕ → List ℕ → List ℕ
kept_bytes checksum kind body = without_last (tail_length checksum kind) body
