-- The packets that a payload is sent in: each has a length of three bytes, a sequence number and its part.
use Rattle.std.specs.Prelude.{ℕ, zero, suc, ◌+◌, ◌/◌, ◌%◌, List, [], ◌∷◌, ◌++◌, length, take, drop}
use Rattle.cdc_event.specs.Number.{low_first}

-- the most bytes of one packet; a packet that is full is continued in the next one
abbrev pub full_packet : ℕ
full_packet = 16777215

-- what stands before the bytes of a packet
abbrev pub packet_head : ℕ → ℕ → List ℕ
packet_head size sequence = low_first 3 size ++ sequence ∷ []

-- a payload in packets, so many of them full, and a last one that is not, maybe an empty one
unfoldable pub packets_of : ℕ → ℕ → List ℕ → List ℕ
packets_of zero sequence payload = packet_head (length payload) sequence ++ payload
packets_of (suc full) sequence payload =
    (packet_head full_packet sequence ++ take full_packet payload) ++ packets_of full ((sequence + 1) % 256) (drop full_packet payload)

-- the packets of a payload
unfoldable pub packet_bytes : ℕ → List ℕ → List ℕ
packet_bytes sequence payload = packets_of (length payload / full_packet) sequence payload

-- the sequence number behind them
abbrev pub sequence_behind : ℕ → ℕ → ℕ
sequence_behind sequence size = (sequence + 1 + size / full_packet) % 256
