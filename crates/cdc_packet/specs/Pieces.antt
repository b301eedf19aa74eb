-- How the bytes of a request are read piece by piece.
use Rattle.std.specs.Prelude.{◌≡◌, ℕ, ◌<◌, ◌≤◌, List, [], ◌++◌, Result, Ok, Err, length, take, drop, min}
use Rattle.cdc_outside.specs.Sink.{WritesTo}
use Rattle.cdc_packet.specs.Request.{EndsWith}
use Rattle.cdc_packet.specs.declared.packet_end.PacketEnd.{PacketEnd}
use Rattle.cdc_packet.specs.declared.packet_end.PacketEnd.TheVariants.{Closed, Torn, TooLong, LinkFault, Memory}

-- as many bytes came as the piece takes and were to come
pub record Fills (bytes piece : List ℕ) (read : ℕ) (rest : List ℕ) : Type 0 where
  pub front : take read piece ≡ take read bytes
  pub all : read ≡ min (length piece) (length bytes)
  pub rest_is : rest ≡ drop read bytes

-- the first of the bytes went behind what a buffer had; none only where there was none
pub record TakesFront (bytes before now rest : List ℕ) (read : ℕ) : Type 0 where
  pub there : read ≤ length bytes
  pub grown : now ≡ before ++ take read bytes
  pub left : rest ≡ drop read bytes
  pub none : read ≡ 0 → bytes ≡ []

-- how one piece is taken
abbrev pub TakesPiece : List ℕ → List ℕ → List ℕ → List ℕ → Result ℕ PacketEnd → Type 0
TakesPiece bytes before now rest (Ok read) = TakesFront bytes before now rest read
TakesPiece bytes before now rest (Err LinkFault) = EndsWith bytes rest
TakesPiece bytes before now rest (Err Memory) = EndsWith bytes rest
TakesPiece bytes before now rest (Err Closed) = ⊥
TakesPiece bytes before now rest (Err Torn) = ⊥
TakesPiece bytes before now rest (Err TooLong) = ⊥

-- how a payload of a size is taken
abbrev pub TakesPayload : {X : Type 0} → ℕ → List ℕ → List ℕ → List ℕ → List ℕ → Result X PacketEnd → Type 0
TakesPayload size bytes before now rest (Ok done) = (size ≤ length bytes) × (now ≡ before ++ take size bytes) × (rest ≡ drop size bytes)
TakesPayload size bytes before now rest (Err Torn) = (length bytes < size) × (now ≡ before ++ bytes) × (rest ≡ [])
TakesPayload size bytes before now rest (Err LinkFault) = WritesTo before (take size bytes) now × EndsWith bytes rest
TakesPayload size bytes before now rest (Err Memory) = WritesTo before (take size bytes) now × EndsWith bytes rest
TakesPayload size bytes before now rest (Err Closed) = ⊥
TakesPayload size bytes before now rest (Err TooLong) = ⊥
