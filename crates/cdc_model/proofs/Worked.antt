-- The definitions computed on small logs whose answers were worked out by hand.
use Rattle.std.proofs.Common.{◌≡◌, ℕ, true, false, List, [], ◌∷◌, ◌++◌, ◌+◌, length, refl, map, Some, None, replicate, take, drop}
use Rattle.std.specs.Prelude.{codes, reverse}
use Rattle.cdc_base.specs.declared.key.Key.{Key}
use Rattle.cdc_base.specs.declared.key.Key.TheVariants.{Shared, Plain as PlainKey}
use Rattle.cdc_base.specs.declared.xid.Xid.{Xid}
use Rattle.cdc_base.specs.declared.rename.Rename.{Rename}
use Rattle.cdc_event.specs.declared.body.Body.TheVariants.{TableMap, Rows, RowsQuery}
use Rattle.cdc_event.specs.Number.{low_first}
use Rattle.cdc_event.specs.Event.{header_bytes, body_bytes}
use Rattle.cdc_event.specs.Table.{renamed}
use Rattle.std.specs.Fmt.{digits as decimal_digits}
use Rattle.hex.specs.Hex.{encode_with}
use Rattle.cdc_model.specs.declared.entry.EntryKind.{EntryKind}
use Rattle.cdc_model.specs.declared.entry.EntryKind.TheVariants.{Prepare, OnePhase, Commit, Rollback, Plain, Beat}
use Rattle.cdc_model.specs.declared.fault.SortFault.TheVariants.{DoublePrepare, UnknownBranch, Undercut}
use Rattle.cdc_model.specs.declared.node_log.NodeLog.{NodeLog}
use Rattle.cdc_model.specs.Records.{Row, LogEntry, CommittedBranch, Transaction}
use Rattle.cdc_model.specs.Start.{beginning, left_by}
use Rattle.cdc_model.specs.Watermark.{node_low_water_mark}
use Rattle.cdc_model.specs.Soundness.{sort_fault}
use Rattle.cdc_model.specs.Print.{digits, mark_text, statement_in}
use Rattle.cdc_base.specs.Key.{first_key}
use Rattle.cdc_model.specs.Transaction.{logs_low_water_mark, settled_transactions, key_at}
use Rattle.cdc_model.specs.Output.{post_headers, file_head, file_name, rotate_event, layout_of, files_of, prints_within, unrotated_file}

-- ---- notation

abbrev pub id : ℕ → Xid
id number = record { gtrid = 103 ∷ (48 + number) ∷ []; bqual = []; format = 1 }

-- an entry at a byte of file 1
abbrev pub at : ℕ → EntryKind → LogEntry
at byte kind = record {
  kind = kind;
  at = record { file = 1; at = byte };
  end = record { file = 1; at = byte };
  checksum = 0;
}

-- entries whose places don't matter
abbrev pub log : List EntryKind → NodeLog
log kinds = record { start = beginning; entries = map (at 0) kinds }

abbrev pub prepare : ℕ → EntryKind
prepare number = Prepare (id number) []

abbrev pub commit : ℕ → ℕ → EntryKind
commit number timestamp = Commit (id number) timestamp 5

-- a table map of d1.t1 and a row event
abbrev pub rows : List Row
rows = (19, TableMap 1 1 (codes "d1") (codes "t1") (1 ∷ 3 ∷ 0 ∷ 1 ∷ [])) ∷ (30, Rows (1 ∷ 0 ∷ 0 ∷ 0 ∷ 0 ∷ 0 ∷ 1 ∷ 0 ∷ 2 ∷ 0 ∷ 1 ∷ 255 ∷ 0 ∷ 1 ∷ 0 ∷ 0 ∷ 0 ∷ [])) ∷ []

abbrev pub prepare_rows : ℕ → EntryKind
prepare_rows number = Prepare (id number) rows

abbrev statement : List ℕ → List Row
statement text = (29, RowsQuery 5 text) ∷ []

-- the keys and branches of transactions
abbrev pub keys : List Transaction → List Key
keys txns = map (λ txn. txn.key) txns

-- ---- logs and what they come to

-- one pair: the whole file, byte by byte
one_pair : unrotated_file (log (prepare 1 ∷ commit 1 10 ∷ []) ∷ []) ≡ (254 ∷ 98 ∷ 105 ∷ 110 ∷ 0 ∷ 0 ∷ 0 ∷ 0 ∷ 15 ∷ 1 ∷ 0 ∷ 0 ∷ 0 ∷ 119 ∷ 0 ∷ 0 ∷ 0 ∷ 123 ∷ 0 ∷ 0 ∷ 0 ∷ 0 ∷ 0 ∷ 4 ∷ 0 ∷ 53 ∷ 46 ∷ 55 ∷ 46 ∷ 48 ∷ 45 ∷ 99 ∷ 100 ∷ 99 ∷ 0 ∷ 0 ∷ 0 ∷ 0 ∷ 0 ∷ 0 ∷ 0 ∷ 0 ∷ 0 ∷ 0 ∷ 0 ∷ 0 ∷ 0 ∷ 0 ∷ 0 ∷ 0 ∷ 0 ∷ 0 ∷ 0 ∷ 0 ∷ 0 ∷ 0 ∷ 0 ∷ 0 ∷ 0 ∷ 0 ∷ 0 ∷ 0 ∷ 0 ∷ 0 ∷ 0 ∷ 0 ∷ 0 ∷ 0 ∷ 0 ∷ 0 ∷ 0 ∷ 0 ∷ 0 ∷ 0 ∷ 0 ∷ 0 ∷ 0 ∷ 0 ∷ 0 ∷ 19 ∷ 56 ∷ 13 ∷ 0 ∷ 8 ∷ 0 ∷ 18 ∷ 0 ∷ 4 ∷ 4 ∷ 4 ∷ 4 ∷ 18 ∷ 0 ∷ 0 ∷ 95 ∷ 0 ∷ 4 ∷ 26 ∷ 8 ∷ 0 ∷ 0 ∷ 0 ∷ 8 ∷ 8 ∷ 8 ∷ 2 ∷ 0 ∷ 0 ∷ 0 ∷ 10 ∷ 10 ∷ 10 ∷ 42 ∷ 42 ∷ 0 ∷ 18 ∷ 52 ∷ 0 ∷ 0 ∷ 0 ∷ 0 ∷ 0 ∷ 0 ∷ 5 ∷ 0 ∷ 0 ∷ 0 ∷ 2 ∷ 1 ∷ 0 ∷ 0 ∷ 0 ∷ 38 ∷ 0 ∷ 0 ∷ 0 ∷ 161 ∷ 0 ∷ 0 ∷ 0 ∷ 0 ∷ 0 ∷ 0 ∷ 0 ∷ 0 ∷ 0 ∷ 0 ∷ 0 ∷ 0 ∷ 0 ∷ 0 ∷ 0 ∷ 0 ∷ 0 ∷ 0 ∷ 0 ∷ 66 ∷ 69 ∷ 71 ∷ 73 ∷ 78 ∷ 5 ∷ 0 ∷ 0 ∷ 0 ∷ 29 ∷ 1 ∷ 0 ∷ 0 ∷ 0 ∷ 53 ∷ 0 ∷ 0 ∷ 0 ∷ 214 ∷ 0 ∷ 0 ∷ 0 ∷ 0 ∷ 0 ∷ 33 ∷ 67 ∷ 84 ∷ 83 ∷ 58 ∷ 58 ∷ 48 ∷ 48 ∷ 48 ∷ 48 ∷ 48 ∷ 48 ∷ 48 ∷ 48 ∷ 48 ∷ 48 ∷ 48 ∷ 48 ∷ 48 ∷ 48 ∷ 48 ∷ 48 ∷ 48 ∷ 49 ∷ 48 ∷ 58 ∷ 58 ∷ 48 ∷ 58 ∷ 58 ∷ 54 ∷ 55 ∷ 51 ∷ 49 ∷ 5 ∷ 0 ∷ 0 ∷ 0 ∷ 16 ∷ 1 ∷ 0 ∷ 0 ∷ 0 ∷ 27 ∷ 0 ∷ 0 ∷ 0 ∷ 241 ∷ 0 ∷ 0 ∷ 0 ∷ 0 ∷ 0 ∷ 1 ∷ 0 ∷ 0 ∷ 0 ∷ 0 ∷ 0 ∷ 0 ∷ 0 ∷ [])
unfolding low_first header_bytes body_bytes encode_with digits mark_text statement_in post_headers file_head file_name rotate_event
one_pair = refl

-- two nodes, one transaction: branches by node
two_nodes : length (unrotated_file (log (prepare_rows 1 ∷ commit 1 10 ∷ []) ∷ log (prepare_rows 1 ∷ commit 1 10 ∷ []) ∷ [])) ≡ 391
unfolding low_first header_bytes body_bytes encode_with digits mark_text statement_in post_headers file_head file_name rotate_event
two_nodes = refl

-- two branches that overlap, and a beat
abbrev pub overlapping : List EntryKind
overlapping = prepare 1 ∷ prepare 2 ∷ commit 2 20 ∷ commit 1 10 ∷ Beat 30 ∷ []

-- a node's low-water mark behind its first entries
abbrev mark_behind : ℕ → List EntryKind → ℕ
mark_behind count kinds = node_low_water_mark (left_by beginning (reverse (map (at 0) (take count kinds))))

-- an open branch's floor holds the low-water mark down
held_by_a_floor : map (λ count. mark_behind count overlapping) (1 ∷ 2 ∷ 3 ∷ 4 ∷ 5 ∷ []) ≡ 0 ∷ 0 ∷ 0 ∷ 20 ∷ 30 ∷ []
unfolding low_first header_bytes body_bytes encode_with digits mark_text statement_in post_headers file_head file_name rotate_event
held_by_a_floor = refl

-- they are ordered by timestamp, not by arrival
ordered_by_timestamp : keys (settled_transactions [] 0 first_key (log overlapping ∷ [])) ≡ Shared 10 (id 1).gtrid ∷ Shared 20 (id 2).gtrid ∷ []
unfolding low_first header_bytes body_bytes encode_with digits mark_text statement_in post_headers file_head file_name rotate_event
ordered_by_timestamp = refl

-- and printed one behind the other
overlapping_length : length (unrotated_file (log overlapping ∷ [])) ≡ 359
unfolding low_first header_bytes body_bytes encode_with digits mark_text statement_in post_headers file_head file_name rotate_event
overlapping_length = refl

-- a node without entries holds all others back
silent_node : unrotated_file (log (prepare 1 ∷ commit 1 10 ∷ []) ∷ log [] ∷ []) ≡ []
unfolding low_first header_bytes body_bytes encode_with digits mark_text statement_in post_headers file_head file_name rotate_event
silent_node = refl

-- ids order a tie of timestamps
tie_by_id : keys (settled_transactions [] 0 first_key (log (prepare 2 ∷ commit 2 10 ∷ []) ∷ log (prepare 1 ∷ commit 1 10 ∷ []) ∷ [])) ≡ Shared 10 (id 1).gtrid ∷ Shared 10 (id 2).gtrid ∷ []
unfolding low_first header_bytes body_bytes encode_with digits mark_text statement_in post_headers file_head file_name rotate_event
tie_by_id = refl

-- local transactions wait at the low-water mark
plain_waits : settled_transactions [] 0 first_key (log (Beat 10 ∷ Plain [] 5 ∷ []) ∷ log (Beat 10 ∷ Plain [] 5 ∷ []) ∷ []) ≡ []
unfolding low_first header_bytes body_bytes encode_with digits mark_text statement_in post_headers file_head file_name rotate_event
plain_waits = refl

-- and come out above it, node by node
plain_settled : keys (settled_transactions [] 0 first_key (log (Beat 10 ∷ Plain [] 5 ∷ Beat 11 ∷ []) ∷ log (Beat 10 ∷ Plain [] 5 ∷ Beat 11 ∷ []) ∷ [])) ≡ PlainKey 10 1 2 ∷ PlainKey 10 2 2 ∷ []
unfolding low_first header_bytes body_bytes encode_with digits mark_text statement_in post_headers file_head file_name rotate_event
plain_settled = refl

-- each of 139 bytes
plain_length : length (unrotated_file (log (Beat 10 ∷ Plain [] 5 ∷ Beat 11 ∷ []) ∷ log (Beat 10 ∷ Plain [] 5 ∷ Beat 11 ∷ []) ∷ [])) ≡ 401
unfolding low_first header_bytes body_bytes encode_with digits mark_text statement_in post_headers file_head file_name rotate_event
plain_length = refl

-- a commit that isn't above its floor is unsound, at its place
undercut_at_the_floor : sort_fault beginning (at 231 (prepare 1) ∷ at 293 (commit 1 10) ∷ at 457 (prepare 2) ∷ at 519 (commit 2 10) ∷ []) ≡ Some (record { file = 1; at = 519 }, Undercut 10 10)
unfolding low_first header_bytes body_bytes encode_with digits mark_text statement_in post_headers file_head file_name rotate_event
undercut_at_the_floor = refl

-- what stands before it is printed
before_the_undercut : length (unrotated_file (log (prepare 1 ∷ commit 1 10 ∷ prepare 2 ∷ commit 2 10 ∷ []) ∷ [])) ≡ 241
unfolding low_first header_bytes body_bytes encode_with digits mark_text statement_in post_headers file_head file_name rotate_event
before_the_undercut = refl

-- a commit of a branch that isn't open
commit_of_nothing : sort_fault beginning (at 151 (commit 1 10) ∷ []) ≡ Some (record { file = 1; at = 151 }, UnknownBranch (id 1))
unfolding low_first header_bytes body_bytes encode_with digits mark_text statement_in post_headers file_head file_name rotate_event
commit_of_nothing = refl

-- a rollback of a branch that isn't open
rollback_of_nothing : sort_fault beginning (at 0 (Rollback (id 1)) ∷ []) ≡ Some (record { file = 1; at = 0 }, UnknownBranch (id 1))
unfolding low_first header_bytes body_bytes encode_with digits mark_text statement_in post_headers file_head file_name rotate_event
rollback_of_nothing = refl

-- a second prepare of an open branch
prepared_twice : sort_fault beginning (at 231 (prepare 1) ∷ at 373 (prepare 1) ∷ []) ≡ Some (record { file = 1; at = 373 }, DoublePrepare (id 1))
unfolding low_first header_bytes body_bytes encode_with digits mark_text statement_in post_headers file_head file_name rotate_event
prepared_twice = refl

-- a branch that was rolled back may be prepared again
rolled_back : sort_fault beginning (map (at 0) (prepare 1 ∷ Beat 10 ∷ Rollback (id 1) ∷ prepare 1 ∷ [])) ≡ None
unfolding low_first header_bytes body_bytes encode_with digits mark_text statement_in post_headers file_head file_name rotate_event
rolled_back = refl

-- and no longer holds the mark
rolled_back_mark : map (λ count. mark_behind count (prepare 1 ∷ Beat 10 ∷ Rollback (id 1) ∷ [])) (2 ∷ 3 ∷ []) ≡ 0 ∷ 10 ∷ []
unfolding low_first header_bytes body_bytes encode_with digits mark_text statement_in post_headers file_head file_name rotate_event
rolled_back_mark = refl

-- prepared and committed at once
one_phase : keys (settled_transactions [] 0 first_key (log (OnePhase (id 1) [] 10 5 ∷ Beat 11 ∷ []) ∷ [])) ≡ Shared 10 (id 1).gtrid ∷ []
unfolding low_first header_bytes body_bytes encode_with digits mark_text statement_in post_headers file_head file_name rotate_event
one_phase = refl

-- whose floor is the mark before it, and whose branch must not be open
one_phase_faults : map (λ kinds. sort_fault beginning (map (at 7) kinds)) ((Beat 10 ∷ OnePhase (id 1) [] 10 5 ∷ []) ∷ (prepare 1 ∷ OnePhase (id 1) [] 10 5 ∷ []) ∷ (prepare 2 ∷ OnePhase (id 1) [] 10 5 ∷ []) ∷ []) ≡ Some (record { file = 1; at = 7 }, Undercut 10 10) ∷ Some (record { file = 1; at = 7 }, DoublePrepare (id 1)) ∷ None ∷ []
unfolding low_first header_bytes body_bytes encode_with digits mark_text statement_in post_headers file_head file_name rotate_event
one_phase_faults = refl

-- and which brings its timestamp
one_phase_mark : mark_behind 1 (OnePhase (id 1) [] 10 5 ∷ []) ≡ 10
one_phase_mark = refl

-- what stands behind a fault is not read
nothing_behind_a_fault :
    keys (settled_transactions [] 0 first_key (log (prepare 1 ∷ commit 1 10 ∷ prepare 2 ∷ commit 2 10 ∷ prepare 3 ∷ commit 3 40 ∷ []) ∷ [])) ≡ Shared 10 (id 1).gtrid ∷ []
unfolding low_first header_bytes body_bytes encode_with digits mark_text statement_in
nothing_behind_a_fault = refl

-- a second branch of the first transaction on the same node
abbrev other_branch : Xid
other_branch = record { gtrid = (id 1).gtrid; bqual = 1 ∷ []; format = 1 }

-- branches of one node stand by the number of the entry that committed them
branches_by_entry :
    map (λ (txn : Transaction). map (λ (branch : CommittedBranch). branch.entry) txn.branches) (settled_transactions [] 0 first_key (log (prepare 1 ∷ Prepare other_branch [] ∷ Commit other_branch 10 5 ∷ commit 1 10 ∷ []) ∷ [])) ≡ (3 ∷ 4 ∷ []) ∷ []
unfolding low_first header_bytes body_bytes encode_with digits mark_text statement_in
branches_by_entry = refl

-- a branch qualifier and a format tell branches apart
other_branches : sort_fault beginning (map (at 0) (prepare 1 ∷ Prepare record { gtrid = (id 1).gtrid; bqual = 1 ∷ []; format = 1 } [] ∷ Prepare record { gtrid = (id 1).gtrid; bqual = []; format = 2 } [] ∷ [])) ≡ None
unfolding low_first header_bytes body_bytes encode_with digits mark_text statement_in post_headers file_head file_name rotate_event
other_branches = refl

-- a log that goes on behind a starting point: entry 7, mark 10, and a held branch whose rows lie before it
abbrev resumed : List EntryKind → NodeLog
resumed kinds = record {
  start = record {
    entry = 7;
    mark = 10;
    opened = record { xid = id 1; floor = 3; entry = 0; rows = [] } ∷ [];
  };
  entries = map (at 0) kinds;
}

-- a held branch's commit gives nothing, and keys up to the last one are not given again
held_and_last : keys (settled_transactions [] 4 (Shared 12 (id 2).gtrid) (resumed (prepare 2 ∷ commit 2 12 ∷ prepare 3 ∷ commit 3 13 ∷ commit 1 14 ∷ Plain [] 5 ∷ Beat 15 ∷ []) ∷ [])) ≡ Shared 13 (id 3).gtrid ∷ PlainKey 14 1 12 ∷ []
unfolding low_first header_bytes body_bytes encode_with digits mark_text statement_in post_headers file_head file_name rotate_event
held_and_last = refl

-- its floor holds until then
held_mark : map (λ kinds. logs_low_water_mark (resumed kinds ∷ [])) ((Beat 12 ∷ []) ∷ (Beat 12 ∷ commit 1 11 ∷ []) ∷ []) ≡ 3 ∷ 12 ∷ []
unfolding low_first header_bytes body_bytes encode_with digits mark_text statement_in post_headers file_head file_name rotate_event
held_mark = refl

-- numbers go on behind the count
numbers_go_on : map (λ (txn : Transaction). txn.number) (settled_transactions [] 4 first_key (resumed (commit 1 11 ∷ prepare 2 ∷ commit 2 12 ∷ prepare 3 ∷ commit 3 13 ∷ []) ∷ [])) ≡ 5 ∷ 6 ∷ []
unfolding low_first header_bytes body_bytes encode_with digits mark_text statement_in post_headers file_head file_name rotate_event
numbers_go_on = refl

-- the key before all transactions, and those of the first and second
keys_at : map (key_at (settled_transactions [] 0 first_key (log overlapping ∷ []))) (0 ∷ 1 ∷ 2 ∷ []) ≡ Shared 0 [] ∷ Shared 10 (id 1).gtrid ∷ Shared 20 (id 2).gtrid ∷ []
unfolding low_first header_bytes body_bytes encode_with digits mark_text statement_in post_headers file_head file_name rotate_event
keys_at = refl

-- three pairs, with a rotation size of 256
abbrev pub three : List EntryKind
three = prepare 1 ∷ commit 1 10 ∷ prepare 2 ∷ commit 2 20 ∷ prepare 3 ∷ commit 3 30 ∷ []

abbrev pub transactions : List EntryKind → List Transaction
transactions kinds = settled_transactions [] 0 first_key (log kinds ∷ [])

-- a file is closed once it has the rotation size
rotated : map length (files_of [] 256 (transactions three)) ≡ 399 ∷ 241 ∷ []
unfolding low_first header_bytes body_bytes encode_with digits mark_text statement_in post_headers file_head file_name rotate_event
rotated = refl

-- and its last event names the next file
rotated_to : map (drop 386) (files_of [] 256 (transactions three)) ≡ codes "binlog.000002" ∷ [] ∷ []
unfolding low_first header_bytes body_bytes encode_with digits mark_text statement_in post_headers file_head file_name rotate_event
rotated_to = refl

-- where the output stands then, and one transaction earlier
rotated_layouts : layout_of [] 256 (transactions three) ∷ layout_of [] 256 (transactions (take 4 three)) ∷ layout_of [] 256 [] ∷ [] ≡ record { file = 2; length = 241; closed = false } ∷ record { file = 1; length = 399; closed = true } ∷ record { file = 0; length = 0; closed = false } ∷ []
unfolding low_first header_bytes body_bytes encode_with digits mark_text statement_in post_headers file_head file_name rotate_event
rotated_layouts = refl

-- a file of exactly the rotation size is closed, one of a byte less isn't
rotated_exactly : layout_of [] 359 (transactions (take 4 three)) ∷ layout_of [] 360 (transactions (take 4 three)) ∷ [] ≡ record { file = 1; length = 399; closed = true } ∷ record { file = 1; length = 359; closed = false } ∷ []
unfolding low_first header_bytes body_bytes encode_with digits mark_text statement_in post_headers file_head file_name rotate_event
rotated_exactly = refl

-- the ROTATE event behind 359 bytes
rotate_bytes : rotate_event 359 2 ≡ 0 ∷ 0 ∷ 0 ∷ 0 ∷ 4 ∷ 1 ∷ 0 ∷ 0 ∷ 0 ∷ 40 ∷ 0 ∷ 0 ∷ 0 ∷ 143 ∷ 1 ∷ 0 ∷ 0 ∷ 0 ∷ 0 ∷ 4 ∷ 0 ∷ 0 ∷ 0 ∷ 0 ∷ 0 ∷ 0 ∷ 0 ∷ 98 ∷ 105 ∷ 110 ∷ 108 ∷ 111 ∷ 103 ∷ 46 ∷ 48 ∷ 48 ∷ 48 ∷ 48 ∷ 48 ∷ 50 ∷ []
unfolding low_first header_bytes body_bytes encode_with digits mark_text statement_in post_headers file_head file_name rotate_event
rotate_bytes = refl

-- names of six digits, and of seven
names : map file_name (1 ∷ 999999 ∷ 1000000 ∷ []) ≡ codes "binlog.000001" ∷ codes "binlog.999999" ∷ codes "binlog.1000000" ∷ []
unfolding digits decimal_digits file_name
names = refl

-- a log with a heartbeat, a local transaction, a branch, and table maps with signedness behind their columns
abbrev signed_rows : List Row
signed_rows = (19, TableMap 1 1 (codes "d1") (codes "t1") (1 ∷ 3 ∷ 0 ∷ 1 ∷ 1 ∷ 1 ∷ 0 ∷ [])) ∷ drop 1 rows

abbrev mixed : List EntryKind
mixed = Beat 5 ∷ Plain signed_rows 5 ∷ Prepare (id 1) signed_rows ∷ commit 1 10 ∷ Beat 11 ∷ []

-- the local transaction is first
mixed_keys : keys (transactions mixed) ≡ PlainKey 5 1 2 ∷ Shared 10 (id 1).gtrid ∷ []
unfolding low_first header_bytes body_bytes encode_with digits mark_text statement_in post_headers file_head file_name rotate_event
mixed_keys = refl

-- and both are printed
mixed_length : length (unrotated_file (log mixed ∷ [])) ≡ 536
unfolding low_first header_bytes body_bytes encode_with digits mark_text statement_in post_headers file_head file_name rotate_event
mixed_length = refl

-- the marks of both
mixed_marks : map mark_text (keys (transactions mixed)) ≡ codes "CTS::0000000000000000005::1::0000100000000000000000002" ∷ codes "CTS::0000000000000000010::0::6731" ∷ []
unfolding low_first header_bytes body_bytes encode_with digits mark_text statement_in post_headers file_head file_name rotate_event
mixed_marks = refl

-- d1.t1 becomes shop.orders
abbrev pub to_orders : List Rename
to_orders = record { db = codes "d1"; table = codes "t2"; to_db = codes "x"; to_table = codes "y" } ∷ record { db = codes "d1"; table = codes "t1"; to_db = codes "shop"; to_table = codes "orders" } ∷ []

-- the renamed body, byte by byte
renamed_body : map (λ row. body_bytes (renamed to_orders row.1)) rows ≡ (1 ∷ 0 ∷ 0 ∷ 0 ∷ 0 ∷ 0 ∷ 1 ∷ 0 ∷ 4 ∷ 115 ∷ 104 ∷ 111 ∷ 112 ∷ 0 ∷ 6 ∷ 111 ∷ 114 ∷ 100 ∷ 101 ∷ 114 ∷ 115 ∷ 0 ∷ 1 ∷ 3 ∷ 0 ∷ 1 ∷ []) ∷ (1 ∷ 0 ∷ 0 ∷ 0 ∷ 0 ∷ 0 ∷ 1 ∷ 0 ∷ 2 ∷ 0 ∷ 1 ∷ 255 ∷ 0 ∷ 1 ∷ 0 ∷ 0 ∷ 0 ∷ []) ∷ []
unfolding low_first header_bytes body_bytes encode_with digits mark_text statement_in post_headers file_head file_name rotate_event
renamed_body = refl

-- the file grows by six bytes
renamed_length : layout_of to_orders 536870912 (transactions (prepare_rows 1 ∷ commit 1 10 ∷ [])) ∷ layout_of [] 536870912 (transactions (prepare_rows 1 ∷ commit 1 10 ∷ [])) ∷ [] ≡ record { file = 1; length = 322; closed = false } ∷ record { file = 1; length = 316; closed = false } ∷ []
unfolding low_first header_bytes body_bytes encode_with digits mark_text statement_in post_headers file_head file_name rotate_event
renamed_length = refl

-- a branch that carries a statement of the whole database
abbrev define_table : EntryKind
define_table = Prepare (id 1) (statement (codes "DDL::d1::CREATE TABLE t (a INT)"))

abbrev other_table : EntryKind
other_table = Prepare (id 1) (statement (codes "DDL::d1::CREATE TABLE u (a INT)"))

abbrev printed_over : List EntryKind → ℕ
printed_over firsts = length (unrotated_file (map (λ first. log (first ∷ commit 1 10 ∷ [])) firsts))

-- one statement; two equal ones are printed once; one that differs is printed beside it; rows stand behind
statements : map printed_over ((define_table ∷ []) ∷ (define_table ∷ define_table ∷ []) ∷ (define_table ∷ other_table ∷ []) ∷ (define_table ∷ prepare_rows 1 ∷ []) ∷ []) ≡ 233 ∷ 233 ∷ 290 ∷ 373 ∷ []
unfolding low_first header_bytes body_bytes encode_with digits mark_text statement_in post_headers file_head file_name rotate_event
statements = refl

-- what spells a statement: the database ends at the first `::`, has at most 64 bytes, and a text stands behind
statement_texts : map statement_in (codes "DDL::d1::x" ∷ codes "DDL::::x" ∷ codes "DDL::a:::x" ∷ codes "DDL::d1::" ∷ codes "DDL::d1:x" ∷ codes "DDL:d1::x" ∷ (codes "DDL::" ++ (replicate 64 97 ++ codes "::x")) ∷ (codes "DDL::" ++ (replicate 65 97 ++ codes "::x")) ∷ []) ≡ Some (codes "d1", codes "x") ∷ Some ([], codes "x") ∷ Some (codes "a", codes ":x") ∷ None ∷ None ∷ None ∷ Some (replicate 64 97, codes "x") ∷ None ∷ []
unfolding low_first header_bytes body_bytes encode_with digits mark_text statement_in post_headers file_head file_name rotate_event
statement_texts = refl

-- the one file ends before the print that would pass its last place
one_file_ends : map (λ place. length (prints_within place (transactions (take 2 three)))) (4294967177 ∷ 4294967178 ∷ []) ≡ 118 ∷ 0 ∷ []
unfolding low_first header_bytes body_bytes encode_with digits mark_text statement_in post_headers file_head file_name rotate_event
one_file_ends = refl
