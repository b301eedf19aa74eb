-- Restart points of small logs and what is read from them, worked out by hand.
use Rattle.std.proofs.Common.{◌≡◌, ℕ, List, [], ◌∷◌, ◌++◌, length, refl, map, take, drop}
use Rattle.std.specs.Prelude.{reverse}
use Rattle.cdc_base.specs.declared.key.Key.{Key}
use Rattle.cdc_base.specs.declared.key.Key.TheVariants.{Shared, Plain as PlainKey}
use Rattle.cdc_event.specs.Number.{low_first}
use Rattle.cdc_event.specs.Event.{header_bytes, body_bytes}
use Rattle.hex.specs.Hex.{encode_with}
use Rattle.cdc_base.specs.Key.{first_key}
use Rattle.cdc_model.specs.declared.entry.EntryKind.{EntryKind}
use Rattle.cdc_model.specs.declared.entry.EntryKind.TheVariants.{Rollback, Plain, Beat}
use Rattle.cdc_model.specs.declared.node_log.NodeLog.{NodeLog}
use Rattle.cdc_model.specs.Records.{LogEntry, Transaction}
use Rattle.cdc_model.specs.Start.{beginning}
use Rattle.cdc_model.specs.Print.{digits, mark_text, statement_in}
use Rattle.cdc_model.specs.Transaction.{logs_low_water_mark, settled_transactions, key_at}
use Rattle.cdc_model.specs.Output.{post_headers, file_head, file_name, rotate_event, expected_files, files_of}
use Rattle.cdc_model.specs.Restart.{RestartPoint, first_point, point_before, latest_number, latest_point, start_at, logs_behind}
use Rattle.cdc_model.proofs.Worked.{id, keys, prepare, commit}

-- an entry of a file whose last event stands between two bytes, and the checksum setting behind it
abbrev stands : ℕ → ℕ → ℕ → ℕ → EntryKind → LogEntry
stands file from to checksum kind = record {
  kind = kind;
  at = record { file = file; at = from };
  end = record { file = file; at = to };
  checksum = checksum;
}

abbrev read_whole : List LogEntry → NodeLog
read_whole entries = record { start = beginning; entries = entries }

abbrev numbers : List Transaction → List ℕ
numbers txns = map (λ (txn : Transaction). txn.number) txns

-- ---- a branch that is open where the log ends

-- a head of 123 bytes, a prepare of 142, a beat of 28, a prepare, and a commit of 84
abbrev first_pass : List LogEntry
first_pass = stands 1 231 265 0 (prepare 1) ∷ stands 1 265 293 0 (Beat 10) ∷ stands 1 401 435 0 (prepare 2) ∷ stands 1 463 519 0 (commit 1 10) ∷ []

abbrev second_pass : List LogEntry
second_pass = first_pass ++ stands 1 547 603 0 (commit 2 20) ∷ []

abbrev settled : List LogEntry → List Transaction
settled entries = settled_transactions [] 0 first_key (read_whole entries ∷ [])

abbrev key_of : ℕ → Key
key_of count = key_at (settled second_pass) count

-- one transaction is settled, and the output has 241 bytes
after_the_first_pass : keys (settled first_pass) ≡ Shared 10 (id 1).gtrid ∷ []
unfolding low_first body_bytes encode_with digits mark_text
after_the_first_pass = refl

first_output : map length (expected_files [] 536870912 (read_whole first_pass ∷ [])) ≡ 241 ∷ []
unfolding low_first header_bytes body_bytes encode_with digits mark_text statement_in post_headers file_head file_name rotate_event
first_output = refl

-- the restart point stands before the prepare that waits, and holds the branch that was open there, though it has ended since
abbrev behind_the_beat : RestartPoint
behind_the_beat = record { entry = 3; place = record { file = 1; at = 293 }; mark = 10; checksum = 0; held = (id 1, 0) ∷ [] }

latest_behind_the_beat : latest_point (key_of 1) first_point 1 first_pass ≡ behind_the_beat
unfolding low_first body_bytes encode_with digits mark_text
latest_behind_the_beat = refl

-- for a lesser key nothing may be left out
latest_for_no_key : latest_point first_key first_point 1 first_pass ≡ first_point
latest_for_no_key = refl

-- the parts of each point of the log
points_of_the_log : map (λ (point : RestartPoint). (point.mark ∷ point.place.at ∷ length point.held ∷ [])) (map (point_before first_point second_pass) (1 ∷ 2 ∷ 3 ∷ 4 ∷ 5 ∷ 6 ∷ []))
    ≡ (0 ∷ 0 ∷ 0 ∷ []) ∷ (0 ∷ 265 ∷ 1 ∷ []) ∷ (10 ∷ 293 ∷ 1 ∷ []) ∷ (10 ∷ 435 ∷ 2 ∷ []) ∷ (10 ∷ 519 ∷ 1 ∷ []) ∷ (20 ∷ 603 ∷ 0 ∷ []) ∷ []
points_of_the_log = refl

-- a held branch has the mark before its Prepare as floor
held_floors : (point_before first_point (map (stands 1 0 0 0) (Beat 5 ∷ prepare 2 ∷ Beat 9 ∷ prepare 1 ∷ [])) 5).held ≡ (id 1, 9) ∷ (id 2, 5) ∷ []
held_floors = refl

-- read from there on, numbering behind 1, the second transaction alone comes, and the first isn't repeated
abbrev resumed : List NodeLog
resumed = logs_behind (behind_the_beat ∷ []) (read_whole second_pass ∷ [])

the_rest : keys (settled_transactions [] 1 (key_of 1) resumed) ≡ Shared 20 (id 2).gtrid ∷ []
unfolding low_first body_bytes encode_with digits mark_text
the_rest = refl

the_rest_is_numbered : numbers (settled_transactions [] 1 (key_of 1) resumed) ≡ 2 ∷ []
unfolding low_first body_bytes encode_with digits mark_text
the_rest_is_numbered = refl

the_rest_is_whole : settled_transactions [] 1 (key_of 1) resumed ≡ drop 1 (settled second_pass)
unfolding low_first body_bytes encode_with digits mark_text
the_rest_is_whole = refl

-- the low-water mark is the whole log's
the_same_mark : logs_low_water_mark resumed ∷ logs_low_water_mark (read_whole second_pass ∷ []) ∷ [] ≡ 20 ∷ 20 ∷ []
the_same_mark = refl

second_output : map length (expected_files [] 536870912 (read_whole second_pass ∷ [])) ≡ 359 ∷ []
unfolding low_first header_bytes body_bytes encode_with digits mark_text statement_in post_headers file_head file_name rotate_event
second_output = refl

-- then all is settled, and the restart point is the log's end, in the whole reading and in the resumed one
at_the_end : latest_point (key_of 2) first_point 1 second_pass ∷ latest_point (key_of 2) behind_the_beat 1 (drop 2 second_pass) ∷ []
    ≡ record { entry = 6; place = record { file = 1; at = 603 }; mark = 20; checksum = 0; held = [] }
    ∷ record { entry = 6; place = record { file = 1; at = 603 }; mark = 20; checksum = 0; held = [] } ∷ []
unfolding low_first body_bytes encode_with digits mark_text
at_the_end = refl

-- ---- a second output that begins anew

-- an output that has nothing reads from the start on, and comes to the same files
from_the_start : settled_transactions [] 0 first_key (logs_behind (first_point ∷ []) (read_whole second_pass ∷ [])) ≡ settled second_pass
from_the_start = refl

both_outputs : map length (files_of [] 536870912 (take 1 (settled second_pass) ++ settled_transactions [] 1 (key_of 1) resumed))
    ++ map length (files_of [] 536870912 (settled_transactions [] 0 first_key (logs_behind (first_point ∷ []) (read_whole second_pass ∷ [])))) ≡ 359 ∷ 359 ∷ []
unfolding low_first header_bytes body_bytes encode_with digits mark_text statement_in post_headers file_head file_name rotate_event
both_outputs = refl

-- ---- a second file with checksums

-- file 1 ends behind a prepare; file 2 has a head of 123 bytes and a commit of 92, under the setting 1
abbrev two_settings : List LogEntry
two_settings = stands 1 231 265 0 (prepare 1) ∷ stands 2 155 215 1 (commit 1 10) ∷ []

with_checksums : map length (expected_files [] 536870912 (read_whole two_settings ∷ [])) ≡ 241 ∷ []
unfolding low_first header_bytes body_bytes encode_with digits mark_text statement_in post_headers file_head file_name rotate_event
with_checksums = refl

-- the restart point has the second file's place and setting
behind_the_second_file : latest_point (Shared 10 (id 1).gtrid) first_point 1 two_settings
    ≡ record { entry = 3; place = record { file = 2; at = 215 }; mark = 10; checksum = 1; held = [] }
behind_the_second_file = refl

-- ---- several branches that wait

-- two open branches and a local transaction: the least of what waits, and of what began with a greater key
abbrev waiting : List LogEntry
waiting = map (stands 1 0 0 0) (Beat 5 ∷ Plain [] 5 ∷ prepare 1 ∷ prepare 2 ∷ commit 2 20 ∷ Beat 30 ∷ [])

latest_numbers : map (λ last. latest_number last (start_at first_point) 1 (reverse waiting))
    (first_key ∷ PlainKey 5 1 2 ∷ Shared 20 (id 2).gtrid ∷ [])
    ∷ map (λ last. latest_number last (start_at first_point) 1 (reverse (waiting ++ stands 1 0 0 0 (Rollback (id 1)) ∷ [])))
    (first_key ∷ PlainKey 5 1 2 ∷ Shared 20 (id 2).gtrid ∷ []) ∷ []
    ≡ (2 ∷ 3 ∷ 3 ∷ []) ∷ (2 ∷ 4 ∷ 8 ∷ []) ∷ []
latest_numbers = refl
