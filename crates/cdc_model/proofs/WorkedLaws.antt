-- Which branch is open, which fault comes first, whose seconds, and the output of small logs, worked out by hand.
use Rattle.std.proofs.Common.{◌≡◌, ℕ, List, [], ◌∷◌, length, refl, map, Option, Some, None, take, drop}
use Rattle.std.specs.Prelude.{reverse}
use Rattle.cdc_base.specs.declared.place.Place.{Place}
use Rattle.cdc_base.specs.declared.xid.Xid.{Xid}
use Rattle.cdc_event.specs.Number.{low_first}
use Rattle.cdc_event.specs.Event.{header_bytes, body_bytes}
use Rattle.cdc_event.specs.declared.fault.FileFault.TheVariants.{BadMagic}
use Rattle.hex.specs.Hex.{encode_with}
use Rattle.cdc_base.specs.Key.{first_key}
use Rattle.cdc_model.specs.declared.entry.EntryKind.{EntryKind}
use Rattle.cdc_model.specs.declared.entry.EntryKind.TheVariants.{Prepare, Commit, Beat}
use Rattle.cdc_model.specs.declared.fault.NodeFault.{NodeFault}
use Rattle.cdc_model.specs.declared.fault.NodeFault.TheVariants.{File, Sort}
use Rattle.cdc_model.specs.declared.fault.SortFault.TheVariants.{UnknownBranch}
use Rattle.cdc_model.specs.declared.node_log.NodeLog.{NodeLog}
use Rattle.cdc_model.specs.Records.{OpenBranch, Transaction}
use Rattle.cdc_model.specs.Start.{beginning, find_open, left_by}
use Rattle.cdc_model.specs.Soundness.{log_fault}
use Rattle.cdc_model.specs.Print.{digits, mark_text, statement_in}
use Rattle.cdc_model.specs.Transaction.{settled_transactions}
use Rattle.cdc_model.specs.Output.{post_headers, file_head, file_name, rotate_event, expected_files, unrotated_file, first_beyond, beyond_the_file}
use Rattle.cdc_model.proofs.Worked.{id, at, log, prepare, commit, rows, prepare_rows, three, transactions, overlapping, to_orders}

-- ---- open branches

abbrev opened_after : List EntryKind → List OpenBranch
opened_after kinds = (left_by beginning (reverse (map (at 0) kinds))).opened

-- the number is the Prepare's own, and the floor the mark before it, though an older open branch has a lesser floor
number_and_floor : map (λ xid. find_open xid (opened_after (Beat 5 ∷ prepare_rows 1 ∷ Beat 7 ∷ prepare 2 ∷ Beat 9 ∷ []))) (id 1 ∷ id 2 ∷ id 3 ∷ [])
    ≡ Some (record { xid = id 1; floor = 5; entry = 2; rows = rows })
    ∷ Some (record { xid = id 2; floor = 7; entry = 4; rows = [] }) ∷ None ∷ []
number_and_floor = refl

abbrev xid_with : ℕ → ℕ → ℕ → Xid
xid_with gtrid bqual format = record { gtrid = gtrid ∷ []; bqual = bqual ∷ []; format = format }

-- they stand by global id, then by qualifier, then by format, whatever their order in the log
in_order_of_xids : map (λ (o : OpenBranch). o.xid)
    (opened_after (Prepare (xid_with 2 1 1) [] ∷ Prepare (xid_with 1 9 2) [] ∷ Prepare (xid_with 1 9 1) [] ∷ Prepare (xid_with 1 8 7) [] ∷ []))
    ≡ xid_with 1 8 7 ∷ xid_with 1 9 1 ∷ xid_with 1 9 2 ∷ xid_with 2 1 1 ∷ []
in_order_of_xids = refl

-- ---- which fault comes first

abbrev file_fault_at : ℕ → Place × NodeFault
file_fault_at byte = (record { file = 2; at = byte }, File BadMagic)

abbrev fault_with : List EntryKind → Option (Place × NodeFault)
fault_with kinds = log_fault Sort beginning (map (at 151) kinds) (Some (file_fault_at 0))

-- an unsound entry's before the one that ended the entries; that one only where all entries are sound
first_fault : map fault_with ((commit 1 10 ∷ []) ∷ (prepare 1 ∷ commit 1 10 ∷ []) ∷ [])
    ≡ Some (record { file = 1; at = 151 }, Sort (UnknownBranch (id 1))) ∷ Some (file_fault_at 0) ∷ []
first_fault = refl

-- ---- whose seconds

abbrev seconds_of : List NodeLog → List ℕ
seconds_of logs = map (λ (txn : Transaction). txn.seconds) (settled_transactions [] 0 first_key logs)

abbrev other_branch : Xid
other_branch = record { gtrid = (id 1).gtrid; bqual = 1 ∷ []; format = 1 }

-- those of the first branch: of the first node, and on one node of the branch that was committed first
first_branch_dates : seconds_of (log (prepare 1 ∷ Commit (id 1) 10 7 ∷ []) ∷ log (prepare 1 ∷ Commit (id 1) 10 9 ∷ []) ∷ [])
    ∷ seconds_of (log (prepare 1 ∷ Prepare other_branch [] ∷ Commit other_branch 10 8 ∷ Commit (id 1) 10 6 ∷ []) ∷ []) ∷ []
    ≡ (7 ∷ []) ∷ (8 ∷ []) ∷ []
unfolding low_first body_bytes encode_with digits mark_text
first_branch_dates = refl

-- ---- the output files of logs

-- no rotation below the size, and then the one file is the output file, its numbers counted from 1
one_output_file : expected_files [] 536870912 (log (prepare 1 ∷ commit 1 10 ∷ []) ∷ []) ≡ unrotated_file (log (prepare 1 ∷ commit 1 10 ∷ []) ∷ []) ∷ []
unfolding low_first header_bytes body_bytes encode_with digits mark_text statement_in post_headers file_head file_name rotate_event
one_output_file = refl

-- the last event of 27 bytes ends with the transaction's number
numbered_from_one : map (drop 233) (expected_files [] 536870912 (log (prepare 1 ∷ commit 1 10 ∷ []) ∷ [])) ≡ (1 ∷ 0 ∷ 0 ∷ 0 ∷ 0 ∷ 0 ∷ 0 ∷ 0 ∷ []) ∷ []
unfolding low_first header_bytes body_bytes encode_with digits mark_text statement_in post_headers file_head file_name rotate_event
numbered_from_one = refl

-- three transactions of 118 bytes, and of two nodes' branches the settled one; a rename to longer names adds six bytes
output_lengths : map (map length)
    (expected_files [] 256 (log three ∷ [])
    ∷ expected_files [] 360 (log three ∷ [])
    ∷ expected_files [] 256 (log overlapping ∷ log (prepare 1 ∷ commit 1 10 ∷ []) ∷ [])
    ∷ expected_files to_orders 256 (log (prepare_rows 1 ∷ commit 1 10 ∷ []) ∷ [])
    ∷ expected_files [] 256 (log [] ∷ []) ∷ [])
    ≡ (399 ∷ 241 ∷ []) ∷ (517 ∷ []) ∷ (241 ∷ []) ∷ (362 ∷ []) ∷ [] ∷ []
unfolding low_first header_bytes body_bytes encode_with digits mark_text statement_in post_headers file_head file_name rotate_event
output_lengths = refl

-- ---- where the one file ends

abbrev number_of : Option Transaction → ℕ
number_of None = 0
number_of (Some txn) = txn.number

-- a print of 118 bytes that ends at the last place has room, and one that ends a byte behind it has none
first_without_room : map (λ place. number_of (first_beyond place (transactions (take 4 three)))) (4294967059 ∷ 4294967060 ∷ 4294967177 ∷ 4294967178 ∷ [])
    ≡ 0 ∷ 2 ∷ 2 ∷ 1 ∷ []
unfolding low_first header_bytes body_bytes encode_with digits mark_text statement_in post_headers file_head file_name rotate_event
first_without_room = refl

-- small logs have room
room_for_all : map (λ kinds. number_of (beyond_the_file (log kinds ∷ []))) (three ∷ overlapping ∷ [] ∷ []) ≡ 0 ∷ 0 ∷ 0 ∷ []
unfolding low_first header_bytes body_bytes encode_with digits mark_text statement_in post_headers file_head file_name rotate_event
room_for_all = refl
