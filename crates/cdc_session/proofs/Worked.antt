-- Requests and replies that were worked out by hand, so that a wrong step of the definitions does not check.
use Rattle.std.proofs.Common.{◌≡◌, ℕ, ◌+◌, List, [], ◌∷◌, ◌++◌, length, take, drop, replicate, refl}
use Rattle.std.specs.Prelude.{Ok, Err, codes, map}
use Rattle.cdc_event.specs.Number.{low_first, number_of}
use Rattle.cdc_event.specs.Event.{header_bytes, body_bytes}
use Rattle.cdc_packet.specs.Packet.{packets_of, packet_bytes}
use Rattle.cdc_index.specs.Chain.{is_chain_behind, events_behind}
use Rattle.cdc_model.specs.Print.{digits}
use Rattle.cdc_model.specs.Output.{file_name}
use Rattle.cdc_outside.specs.declared.disk_file.DiskFile.TheVariants.{SlotA}
use Rattle.cdc_dumper.specs.declared.fault.OpenFault.TheVariants.{BadCell}
use Rattle.cdc_session.specs.declared.session_end.SessionEnd.TheVariants.{Quit, Closed, BadPacket, Kept, Torn}
use Rattle.cdc_session.specs.Shelf.{Shelf}
use Rattle.cdc_session.specs.Dump.{rotate_to}
use Rattle.cdc_session.specs.Reply.{packets_from, session_within, session_over}

-- an output file of one transaction: 241 bytes
abbrev one_file : List ℕ
one_file =
    254 ∷ 98 ∷ 105 ∷ 110 ∷ []
    ++ (0 ∷ 0 ∷ 0 ∷ 0 ∷ 15 ∷ 1 ∷ 0 ∷ 0 ∷ 0 ∷ 119 ∷ 0 ∷ 0 ∷ 0 ∷ 123 ∷ 0 ∷ 0 ∷ 0 ∷ 0 ∷ 0 ∷ [])
    ++ (4 ∷ 0 ∷ codes "5.7.0-cdc") ++ replicate 41 0 ++ (0 ∷ 0 ∷ 0 ∷ 0 ∷ 19 ∷ [])
    ++ (56 ∷ 13 ∷ 0 ∷ 8 ∷ 0 ∷ 18 ∷ 0 ∷ 4 ∷ 4 ∷ 4 ∷ 4 ∷ 18 ∷ 0 ∷ 0 ∷ 95 ∷ 0 ∷ 4 ∷ 26 ∷ 8 ∷ [])
    ++ (0 ∷ 0 ∷ 0 ∷ 8 ∷ 8 ∷ 8 ∷ 2 ∷ 0 ∷ 0 ∷ 0 ∷ 10 ∷ 10 ∷ 10 ∷ 42 ∷ 42 ∷ 0 ∷ 18 ∷ 52 ∷ 0 ∷ [])
    ++ replicate 5 0
    ++ (5 ∷ 0 ∷ 0 ∷ 0 ∷ 2 ∷ 1 ∷ 0 ∷ 0 ∷ 0 ∷ 38 ∷ 0 ∷ 0 ∷ 0 ∷ 161 ∷ 0 ∷ 0 ∷ 0 ∷ 0 ∷ 0 ∷ []) ++ replicate 14 0 ++ codes "BEGIN"
    ++ (5 ∷ 0 ∷ 0 ∷ 0 ∷ 29 ∷ 1 ∷ 0 ∷ 0 ∷ 0 ∷ 53 ∷ 0 ∷ 0 ∷ 0 ∷ 214 ∷ 0 ∷ 0 ∷ 0 ∷ 0 ∷ 0 ∷ 33 ∷ codes "CTS::0000000000000000010::0::6731")
    ++ (5 ∷ 0 ∷ 0 ∷ 0 ∷ 16 ∷ 1 ∷ 0 ∷ 0 ∷ 0 ∷ 27 ∷ 0 ∷ 0 ∷ 0 ∷ 241 ∷ 0 ∷ 0 ∷ 0 ∷ 0 ∷ 0 ∷ 1 ∷ 0 ∷ 0 ∷ 0 ∷ 0 ∷ 0 ∷ 0 ∷ 0 ∷ [])

-- the output that has this one file
abbrev one_shelf : Shelf
one_shelf = Ok (record { number = 1; bytes = one_file } ∷ [])

-- a request for a dump from a place of a file, and whether it is to end there
abbrev dump_request : ℕ → ℕ → List ℕ → List ℕ
dump_request at flags name = (11 + length name) ∷ 0 ∷ 0 ∷ 0 ∷ 18 ∷ at ∷ 0 ∷ 0 ∷ 0 ∷ flags ∷ 0 ∷ 7 ∷ 0 ∷ 0 ∷ 0 ∷ name

pub file_length : length one_file ≡ 241
file_length = refl

-- a dump of the whole file: its packets begin so, and the last one says that there is no more
abbrev whole_dump : List ℕ
whole_dump = (session_over one_shelf (dump_request 4 1 (codes "binlog.000001"))).reply

pub dump_is_whole : length whole_dump ≡ 311
unfolding session_over session_within packets_from packet_bytes packets_of low_first number_of is_chain_behind events_behind header_bytes body_bytes rotate_to file_name digits
dump_is_whole = refl

pub dump_first : take 45 whole_dump
    ≡ 41 ∷ 0 ∷ 0 ∷ 1 ∷ 0 ∷ 0 ∷ 0 ∷ 0 ∷ 0 ∷ 4 ∷ 1 ∷ 0 ∷ 0 ∷ 0 ∷ 40 ∷ 0 ∷ 0 ∷ 0 ∷ 0 ∷ 0 ∷ 0 ∷ 0 ∷ 32 ∷ 0 ∷ 4 ∷ 0 ∷ 0 ∷ 0 ∷ 0 ∷ 0 ∷ 0 ∷ 0 ∷ codes "binlog.000001"
unfolding session_over session_within packets_from packet_bytes packets_of low_first number_of is_chain_behind events_behind header_bytes body_bytes rotate_to file_name digits
dump_first = refl

pub dump_heads : take 5 (drop 45 whole_dump) ++ take 5 (drop 169 whole_dump) ++ take 5 (drop 212 whole_dump) ++ take 5 (drop 270 whole_dump)
    ≡ 120 ∷ 0 ∷ 0 ∷ 2 ∷ 0 ∷ 39 ∷ 0 ∷ 0 ∷ 3 ∷ 0 ∷ 54 ∷ 0 ∷ 0 ∷ 4 ∷ 0 ∷ 28 ∷ 0 ∷ 0 ∷ 5 ∷ 0 ∷ []
unfolding session_over session_within packets_from packet_bytes packets_of low_first number_of is_chain_behind events_behind header_bytes body_bytes rotate_to file_name digits
dump_heads = refl

-- the file's events stand in them as they are
pub dump_events : take 119 (drop 50 whole_dump) ++ take 38 (drop 174 whole_dump) ++ take 53 (drop 217 whole_dump) ++ take 27 (drop 275 whole_dump) ≡ drop 4 one_file
unfolding session_over session_within packets_from packet_bytes packets_of low_first number_of is_chain_behind events_behind header_bytes body_bytes rotate_to file_name digits
dump_events = refl

pub dump_last : drop 302 whole_dump ≡ 5 ∷ 0 ∷ 0 ∷ 6 ∷ 254 ∷ 0 ∷ 0 ∷ 2 ∷ 0 ∷ []
unfolding session_over session_within packets_from packet_bytes packets_of low_first number_of is_chain_behind events_behind header_bytes body_bytes rotate_to file_name digits
dump_last = refl

pub dump_ends : (session_over one_shelf (dump_request 4 1 (codes "binlog.000001"))).ending ≡ Closed
unfolding session_over session_within number_of is_chain_behind events_behind file_name digits
dump_ends = refl

-- behind the first transaction's BEGIN: the first event again, without its place, and two events
pub dump_behind : drop 45 (session_over one_shelf (dump_request 161 0 (codes "binlog.000001"))).reply
    ≡ (120 ∷ 0 ∷ 0 ∷ 2 ∷ 0 ∷ take 13 (drop 4 one_file)) ++ (0 ∷ 0 ∷ 0 ∷ 0 ∷ []) ++ take 102 (drop 21 one_file)
    ++ (54 ∷ 0 ∷ 0 ∷ 3 ∷ 0 ∷ take 53 (drop 161 one_file)) ++ (28 ∷ 0 ∷ 0 ∷ 4 ∷ 0 ∷ drop 214 one_file)
unfolding session_over session_within packets_from packet_bytes packets_of low_first number_of is_chain_behind events_behind header_bytes body_bytes rotate_to file_name digits
dump_behind = refl

-- an error's packet
abbrev refused : List ℕ
refused = 35 ∷ 0 ∷ 0 ∷ 1 ∷ 255 ∷ 212 ∷ 4 ∷ codes "#HY000no such published position"

-- no event ends at 5; there is no second file; a name without a number is no file's
pub refused_dumps : map (λ request. (session_over one_shelf request).reply)
    (dump_request 5 1 (codes "binlog.000001") ∷ dump_request 4 1 (codes "binlog.000002") ∷ dump_request 4 1 (codes "binlog") ∷ []) ≡ refused ∷ refused ∷ refused ∷ []
unfolding session_over session_within packets_from packet_bytes packets_of low_first number_of is_chain_behind events_behind header_bytes body_bytes rotate_to file_name digits
refused_dumps = refl

-- an empty name means the first file
pub empty_name : (session_over one_shelf (dump_request 4 1 [])).reply ≡ whole_dump
unfolding session_over session_within packets_from packet_bytes packets_of low_first number_of is_chain_behind events_behind header_bytes body_bytes rotate_to file_name digits
empty_name = refl

-- a ping, a query, and a client that quits behind a ping
pub ping : session_over one_shelf (1 ∷ 0 ∷ 0 ∷ 0 ∷ 14 ∷ []) ≡ record { reply = 7 ∷ 0 ∷ 0 ∷ 1 ∷ 0 ∷ 0 ∷ 0 ∷ 2 ∷ 0 ∷ 0 ∷ 0 ∷ []; ending = Closed }
unfolding session_over session_within packets_from packet_bytes packets_of low_first number_of
ping = refl

pub query : (session_over one_shelf (2 ∷ 0 ∷ 0 ∷ 0 ∷ 3 ∷ 49 ∷ [])).reply ≡ 24 ∷ 0 ∷ 0 ∷ 1 ∷ 255 ∷ 23 ∷ 4 ∷ codes "#08S01unknown command"
unfolding session_over session_within packets_from packet_bytes packets_of low_first number_of
query = refl

pub quits : session_over one_shelf (1 ∷ 0 ∷ 0 ∷ 255 ∷ 14 ∷ 1 ∷ 0 ∷ 0 ∷ 3 ∷ 1 ∷ 1 ∷ []) ≡ record { reply = 7 ∷ 0 ∷ 0 ∷ 0 ∷ 0 ∷ 0 ∷ 0 ∷ 2 ∷ 0 ∷ 0 ∷ 0 ∷ []; ending = Quit }
unfolding session_over session_within packets_from packet_bytes packets_of low_first number_of
quits = refl

-- bytes that end inside a packet, behind a ping
pub cut_short : session_over one_shelf (1 ∷ 0 ∷ 0 ∷ 0 ∷ 14 ∷ 2 ∷ 0 ∷ 0 ∷ 0 ∷ 3 ∷ []) ≡ record { reply = 7 ∷ 0 ∷ 0 ∷ 1 ∷ 0 ∷ 0 ∷ 0 ∷ 2 ∷ 0 ∷ 0 ∷ 0 ∷ []; ending = BadPacket }
unfolding session_over session_within packets_from packet_bytes packets_of low_first number_of
cut_short = refl

-- a refused output is met at a dump alone
pub refused_output : session_over (Err (BadCell SlotA)) (1 ∷ 0 ∷ 0 ∷ 0 ∷ 14 ∷ dump_request 4 1 []) ≡ record { reply = 7 ∷ 0 ∷ 0 ∷ 1 ∷ 0 ∷ 0 ∷ 0 ∷ 2 ∷ 0 ∷ 0 ∷ 0 ∷ []; ending = Kept (BadCell SlotA) }
unfolding session_over session_within packets_from packet_bytes packets_of low_first number_of
refused_output = refl

-- a file without its last byte is torn
pub torn_file : (session_over (Ok (record { number = 1; bytes = take 240 one_file } ∷ [])) (dump_request 4 1 [])).ending ≡ Torn
unfolding session_over session_within number_of is_chain_behind events_behind
torn_file = refl
