-- The next packet of the bytes that a client sends.
use Rattle.std.specs.Prelude.{◌≡◌, ℕ, List, [], ◌∷◌, ◌++◌, Result, Ok, Err, length, take, drop, nat_lt, if◌then◌else◌}
use Rattle.cdc_event.specs.Number.{number_of}
use Rattle.cdc_outside.specs.Sink.{WritesTo}
use Rattle.cdc_packet.specs.declared.packet_end.PacketEnd.{PacketEnd}
use Rattle.cdc_packet.specs.declared.packet_end.PacketEnd.TheVariants.{Closed, Torn, TooLong, LinkFault, Memory}

-- the most bytes of a request's payload
abbrev pub longest_request : ℕ
longest_request = 65535

-- there is no byte; they end inside the packet; it is longer than a request; or a payload, and what stands behind it
pub data Request : Type 0 where
  NoRequest : Request
  CutShort : Request
  Oversized : Request
  Whole : (sequence : ℕ) (payload : List ℕ) (behind : List ℕ) → Request

-- the packet whose length and sequence number these are, before these bytes
abbrev pub request_behind : ℕ → ℕ → List ℕ → Request
request_behind size sequence bytes =
    if nat_lt longest_request size then Oversized
    else if nat_lt (length bytes) size then CutShort
    else Whole sequence (take size bytes) (drop size bytes)

-- the request at the front of a stream of packets
abbrev pub next_request : List ℕ → Request
next_request [] = NoRequest
next_request (low ∷ []) = CutShort
next_request (low ∷ middle ∷ []) = CutShort
next_request (low ∷ middle ∷ high ∷ []) = CutShort
next_request (low ∷ middle ∷ high ∷ sequence ∷ bytes) = request_behind (number_of (low ∷ middle ∷ high ∷ [])) sequence bytes

-- as much of a next packet's payload as the bytes have
abbrev pub payload_part : List ℕ → List ℕ
payload_part bytes = take (number_of (take 3 bytes)) (drop 4 bytes)

-- later bytes are what is left of earlier ones
abbrev pub EndsWith : List ℕ → List ℕ → Type 0
EndsWith bytes rest = (gone : List ℕ) × (bytes ≡ gone ++ rest)

-- how a next packet is read from these bytes, behind what a buffer had before: the buffer then, and the bytes left
abbrev pub ReadsRequest : List ℕ → List ℕ → List ℕ → List ℕ → Result ℕ PacketEnd → Type 0
ReadsRequest bytes before now rest (Ok sequence) = (payload : List ℕ) × (next_request bytes ≡ Whole sequence payload rest) × (now ≡ before ++ payload)
ReadsRequest bytes before now rest (Err Closed) = (next_request bytes ≡ NoRequest) × (now ≡ before) × (rest ≡ [])
ReadsRequest bytes before now rest (Err Torn) = (next_request bytes ≡ CutShort) × (now ≡ before ++ drop 4 bytes) × (rest ≡ [])
ReadsRequest bytes before now rest (Err TooLong) = (next_request bytes ≡ Oversized) × (now ≡ before) × (rest ≡ drop 4 bytes)
ReadsRequest bytes before now rest (Err LinkFault) = WritesTo before (payload_part bytes) now × EndsWith bytes rest
ReadsRequest bytes before now rest (Err Memory) = WritesTo before (payload_part bytes) now × EndsWith bytes rest
