-- The reply of a session: a function of the published files and of all that the client sends.
use Rattle.std.specs.Prelude.{ℕ, zero, suc, ◌+◌, ◌%◌, ◌^◌, ◌==◌, not, List, [], ◌∷◌, ◌++◌, length, codes, Option, Some, None, Ok, Err, if◌then◌else◌}
use Rattle.cdc_packet.specs.Packet.{packet_bytes, sequence_behind}
use Rattle.cdc_packet.specs.Command.{command_in}
use Rattle.cdc_packet.specs.declared.command.Command.{Command}
use Rattle.cdc_packet.specs.declared.command.Command.TheVariants.{Dump, Ping, Register, Unknown, Quit as AskedToQuit}
use Rattle.cdc_packet.specs.Request.{Request, NoRequest, CutShort, Oversized, Whole, next_request}
use Rattle.cdc_index.specs.Chain.{is_whole_file, is_boundary_of}
use Rattle.cdc_session.specs.declared.session_end.SessionEnd.{SessionEnd}
use Rattle.cdc_session.specs.declared.session_end.SessionEnd.TheVariants.{Quit, Closed, BadPacket, Kept, Torn}
use Rattle.cdc_session.specs.Shelf.{PublishedFile, Shelf}
use Rattle.cdc_session.specs.Dump.{asked_files, dump_payloads, are_whole}

-- all is well
abbrev pub well_payload : List ℕ
well_payload = 0 ∷ 0 ∷ 0 ∷ 2 ∷ 0 ∷ 0 ∷ 0 ∷ []

-- error 1047: no such command
abbrev pub unknown_payload : List ℕ
unknown_payload = 255 ∷ 23 ∷ 4 ∷ codes "#08S01unknown command"

-- error 1236: no such place
abbrev pub no_place_payload : List ℕ
no_place_payload = 255 ∷ 212 ∷ 4 ∷ codes "#HY000no such published position"

-- the end of a dump that doesn't wait for more
abbrev pub no_more_payload : List ℕ
no_more_payload = 254 ∷ 0 ∷ 0 ∷ 2 ∷ 0 ∷ []

-- what a request is answered: payloads, and whether the session ends with it
pub record Answer : Type 0 where
  pub payloads : List (List ℕ)
  pub ending : Option SessionEnd

-- payloads, and the session goes on
abbrev pub goes_on : List (List ℕ) → Answer
goes_on payloads = record { payloads = payloads; ending = None }

-- payloads, and the session ends
abbrev pub ends_with : List (List ℕ) → SessionEnd → Answer
ends_with payloads ending = record { payloads = payloads; ending = Some ending }

-- a dump that isn't to wait for more ends with a payload of its own; any other ends the session
abbrev pub dumped : ℕ → List (List ℕ) → Answer
dumped flags payloads = if flags % 2 == 1 then goes_on (payloads ++ no_more_payload ∷ []) else ends_with payloads Closed

-- a dump from a place of the first of these files on; it ends at a torn file, and is refused where there is no file or
-- the place is no boundary
abbrev pub dump_answer : ℕ → ℕ → List PublishedFile → Answer
dump_answer at flags [] = goes_on (no_place_payload ∷ [])
dump_answer at flags (file ∷ files) =
    if not (is_whole_file file.bytes) then ends_with [] Torn
    else if not (is_boundary_of file.bytes at) then goes_on (no_place_payload ∷ [])
    else if not (are_whole files) then ends_with (dump_payloads at file files) Torn
    else dumped flags (dump_payloads at file files)

-- a dump over the shelf, which is looked at then
abbrev pub shelf_answer : Shelf → ℕ → ℕ → List ℕ → Answer
shelf_answer (Ok files) at flags name = dump_answer at flags (asked_files name files)
shelf_answer (Err fault) at flags name = ends_with [] (Kept fault)

-- the answer to a command
abbrev pub answer_to : Shelf → Command → Answer
answer_to shelf (Dump at flags server name) = shelf_answer shelf at flags name
answer_to shelf AskedToQuit = ends_with [] Quit
answer_to shelf Ping = goes_on (well_payload ∷ [])
answer_to shelf Register = goes_on (well_payload ∷ [])
answer_to shelf Unknown = goes_on (unknown_payload ∷ [])

-- ---- packets

-- payloads in packets, numbered on from a sequence number
unfoldable pub packets_from : ℕ → List (List ℕ) → List ℕ
packets_from sequence [] = []
packets_from sequence (payload ∷ payloads) = packet_bytes sequence payload ++ packets_from (sequence_behind sequence (length payload)) payloads

-- the sequence number behind them
unfoldable pub sequence_after : ℕ → List (List ℕ) → ℕ
sequence_after sequence [] = sequence
sequence_after sequence (payload ∷ payloads) = sequence_after (sequence_behind sequence (length payload)) payloads

-- ---- the session

-- a session: what is written, and how it ends
pub record Session : Type 0 where
  pub reply : List ℕ
  pub ending : SessionEnd

-- a session that ends with nothing more written
abbrev pub ended : SessionEnd → Session
ended ending = record { reply = []; ending = ending }

-- an answer's packets, before the rest of a session
abbrev pub answered_before : List ℕ → Option SessionEnd → Session → Session
answered_before packets None rest = record { reply = packets ++ rest.reply; ending = rest.ending }
answered_before packets (Some ending) rest = record { reply = packets; ending = ending }

-- an answer to a packet of this number, before the rest of a session
abbrev pub answered : ℕ → Answer → Session → Session
answered sequence answer rest = answered_before (packets_from ((sequence + 1) % 256) answer.payloads) answer.ending rest

-- what comes of the next packet of a client, and of the bytes behind it
abbrev pub session_from : Shelf → (List ℕ → Session) → Request → Session
session_from shelf next NoRequest = ended Closed
session_from shelf next CutShort = ended BadPacket
session_from shelf next Oversized = ended BadPacket
session_from shelf next (Whole sequence payload behind) = answered sequence (answer_to shelf (command_in payload)) (next behind)

-- a session of at most so many requests over all bytes that a client sends
unfoldable pub session_within : Shelf → ℕ → List ℕ → Session
session_within shelf zero input = ended Closed
session_within shelf (suc more) input = session_from shelf (session_within shelf more) (next_request input)

-- the most requests of a session
abbrev pub most_requests : ℕ
most_requests = 2 ^ 62

-- the session over a shelf of a client that sends these bytes
unfoldable pub session_over : Shelf → List ℕ → Session
session_over shelf input = session_within shelf most_requests input
