-- The grammar of a node's log computed on signs, events and small logs whose answers were worked out by hand.
use Rattle.std.proofs.Common.{◌≡◌, ℕ, List, [], ◌∷◌, ◌++◌, ◌+◌, ◌^◌, ◌-◌, refl, map, Some, None, Option, replicate}
use Rattle.std.specs.Prelude.{codes}
use Rattle.cdc_base.specs.declared.xid.Xid.{Xid}
use Rattle.cdc_event.specs.declared.body.Body.{Body}
use Rattle.cdc_event.specs.declared.body.Body.TheVariants.{Format, Query, Rotate, RowsQuery, TableMap, Rows, XaPrepare, Timestamp, Skipped}
use Rattle.cdc_event.specs.declared.body.Body.TheVariants.{Xid as XidEvent}
use Rattle.cdc_query.specs.declared.verb.Verb.TheVariants.{XaStart, XaEnd, XaCommit, XaRollback, XaOther, Other}
use Rattle.cdc_model.specs.declared.entry.EntryKind.{EntryKind}
use Rattle.cdc_model.specs.declared.entry.EntryKind.TheVariants.{Prepare, OnePhase, Commit, Rollback, Plain, Beat}
use Rattle.cdc_model.specs.declared.fault.GroupFault.{GroupFault}
use Rattle.cdc_model.specs.declared.fault.GroupFault.TheVariants.{NoTimestamp, BadTimestamp, Statement, XidDiffers, RowsOutside, OutOfPlace, BadDdl}
use Rattle.cdc_model.specs.Records.{Row, LogEntry}
use Rattle.cdc_model.specs.Print.{statement_in}
use Rattle.cdc_model.specs.Sign.{Sign, SignedEvent, Gtid, Quiet, Ddl, Marked, CommitTime, BeatTime, NoTime, RowEvent, NumberEvent, PrepareEvent, BeginText, CommitText, RollbackText, SavepointText, XaStartText, XaEndText, XaCommitText, XaRollbackText, OtherText, Foreign, sign_of_verb, sign_of_body, signed}
use Rattle.cdc_model.specs.Group.{TableRows, OneStatement, Progress, Out, Wait, Xa, End, Local}
use Rattle.cdc_model.specs.Misfit.{misfit}
use Rattle.cdc_model.proofs.GroupMachine.{Ending, Reached, Misplaced, outcome}

-- ---- notation

abbrev g1 : Xid
g1 = record { gtrid = 103 ∷ 49 ∷ []; bqual = []; format = 1 }

abbrev g2 : Xid
g2 = record { gtrid = 103 ∷ 50 ∷ []; bqual = []; format = 1 }

abbrev map_row : Row
map_row = (19, TableMap 1 1 (codes "d1") (codes "t1") (1 ∷ 3 ∷ 0 ∷ 1 ∷ []))

abbrev insert_row : Row
insert_row = (30, Rows (1 ∷ 0 ∷ 0 ∷ 0 ∷ 0 ∷ 0 ∷ 1 ∷ 0 ∷ 2 ∷ 0 ∷ 1 ∷ 255 ∷ 0 ∷ 1 ∷ 0 ∷ 0 ∷ 0 ∷ []))

abbrev create : List ℕ
create = codes "DDL::d1::CREATE TABLE t (a INT)"

abbrev create_row : Row
create_row = (29, RowsQuery 31 create)

-- ---- the table: which fault a sign has in which progress

-- outside, behind a timestamp, in an XA group, behind its end, in a local transaction
abbrev progress : List Progress
progress = Out ∷ Wait 10 ∷ Xa None g1 (TableRows []) ∷ End None g1 (TableRows []) ∷ Local [] ∷ []

abbrev faults : Sign → List (Option GroupFault)
faults sign = map (λ progress. misfit progress sign) progress

abbrev fits : Option GroupFault
fits = None

abbrev out_of_place : Option GroupFault
out_of_place = Some OutOfPlace

abbrev bad_time : Option GroupFault
bad_time = Some BadTimestamp

abbrev statement : Option GroupFault
statement = Some Statement

abbrev rows_outside : Option GroupFault
rows_outside = Some RowsOutside

-- one line a sign
table : map faults (Foreign ∷ Gtid ∷ Quiet ∷ Ddl create_row ∷ Marked ∷ CommitTime 10 ∷ BeatTime 10 ∷ NoTime ∷ BeginText ∷ XaStartText g1
    ∷ XaEndText g1 ∷ XaCommitText g1 ∷ XaRollbackText g1 ∷ CommitText ∷ RollbackText ∷ SavepointText ∷ OtherText ∷ RowEvent map_row
    ∷ NumberEvent ∷ PrepareEvent 0 g1 ∷ [])
    ≡ ((statement ∷ statement ∷ statement ∷ statement ∷ statement ∷ [])
    ∷ (fits ∷ fits ∷ fits ∷ fits ∷ fits ∷ [])
    ∷ (fits ∷ bad_time ∷ fits ∷ fits ∷ fits ∷ [])
    ∷ (fits ∷ bad_time ∷ fits ∷ fits ∷ fits ∷ [])
    ∷ (fits ∷ bad_time ∷ Some BadDdl ∷ fits ∷ fits ∷ [])
    ∷ (fits ∷ bad_time ∷ bad_time ∷ bad_time ∷ bad_time ∷ [])
    ∷ (fits ∷ bad_time ∷ bad_time ∷ bad_time ∷ bad_time ∷ [])
    ∷ (bad_time ∷ bad_time ∷ bad_time ∷ bad_time ∷ bad_time ∷ [])
    ∷ (fits ∷ bad_time ∷ out_of_place ∷ out_of_place ∷ out_of_place ∷ [])
    ∷ (fits ∷ fits ∷ out_of_place ∷ out_of_place ∷ out_of_place ∷ [])
    ∷ (out_of_place ∷ bad_time ∷ fits ∷ out_of_place ∷ out_of_place ∷ [])
    ∷ (Some NoTimestamp ∷ fits ∷ out_of_place ∷ out_of_place ∷ out_of_place ∷ [])
    ∷ (fits ∷ bad_time ∷ out_of_place ∷ out_of_place ∷ out_of_place ∷ [])
    ∷ (fits ∷ bad_time ∷ out_of_place ∷ out_of_place ∷ fits ∷ [])
    ∷ (fits ∷ bad_time ∷ out_of_place ∷ out_of_place ∷ fits ∷ [])
    ∷ (fits ∷ bad_time ∷ fits ∷ out_of_place ∷ fits ∷ [])
    ∷ (fits ∷ bad_time ∷ statement ∷ statement ∷ statement ∷ [])
    ∷ (rows_outside ∷ bad_time ∷ fits ∷ rows_outside ∷ fits ∷ [])
    ∷ (out_of_place ∷ bad_time ∷ out_of_place ∷ out_of_place ∷ fits ∷ [])
    ∷ (out_of_place ∷ bad_time ∷ out_of_place ∷ fits ∷ out_of_place ∷ [])
    ∷ [])
table = refl

-- an end and a prepare name the group's branch; one phase wants a timestamp before the group, and two phases none
xids_and_phases : (misfit (Xa None g1 (TableRows [])) (XaEndText g2) ∷ misfit (End None g1 (TableRows [])) (PrepareEvent 0 g2)
    ∷ misfit (End (Some 10) g1 (TableRows [])) (PrepareEvent 1 g2) ∷ misfit (End None g1 (TableRows [])) (PrepareEvent 1 g1)
    ∷ misfit (End (Some 10) g1 (TableRows [])) (PrepareEvent 0 g1) ∷ misfit (End (Some 10) g1 (TableRows [])) (PrepareEvent 1 g1) ∷ [])
    ≡ Some XidDiffers ∷ Some XidDiffers ∷ Some XidDiffers ∷ Some NoTimestamp ∷ bad_time ∷ fits ∷ []
xids_and_phases = refl

-- one statement stands alone in its group
statements_alone : (misfit (Xa None g1 (TableRows (map_row ∷ []))) (Ddl create_row) ∷ misfit (Xa None g1 (OneStatement create_row)) (Ddl create_row)
    ∷ misfit (Xa None g1 (OneStatement create_row)) (RowEvent map_row) ∷ misfit (Xa None g1 (OneStatement create_row)) Quiet
    ∷ misfit (Xa None g1 (OneStatement create_row)) SavepointText ∷ [])
    ≡ Some BadDdl ∷ Some BadDdl ∷ Some BadDdl ∷ fits ∷ fits ∷ []
statements_alone = refl

-- ---- signs of events

abbrev query : List ℕ → Body
query text = Query 1 0 0 [] (codes "d1") text

signs_of_texts : map (λ (text : List ℕ). sign_of_body 2 (query text)) (codes "BEGIN" ∷ codes "commit" ∷ codes " ROLLBACK " ∷ codes "SAVEPOINT a"
    ∷ codes "XA RECOVER" ∷ codes "CREATE TABLE d1.t1 (a INT)" ∷ [])
    ≡ BeginText ∷ CommitText ∷ RollbackText ∷ SavepointText ∷ Foreign ∷ OtherText ∷ []
signs_of_texts = refl

signs_of_verbs : map sign_of_verb (XaStart g1 ∷ XaEnd g2 ∷ XaCommit g1 ∷ XaRollback g1 ∷ XaOther ∷ Other ∷ [])
    ≡ XaStartText g1 ∷ XaEndText g2 ∷ XaCommitText g1 ∷ XaRollbackText g1 ∷ Foreign ∷ OtherText ∷ []
signs_of_verbs = refl

signs_of_timestamps : (sign_of_body 200 (Timestamp 1 1) ∷ sign_of_body 200 (Timestamp 2 (2 ^ 63 - 1)) ∷ sign_of_body 200 (Timestamp 1 0)
    ∷ sign_of_body 200 (Timestamp 2 (2 ^ 63)) ∷ sign_of_body 200 (Timestamp 0 10) ∷ sign_of_body 200 (Timestamp 3 10) ∷ [])
    ≡ CommitTime 1 ∷ BeatTime (2 ^ 63 - 1) ∷ NoTime ∷ NoTime ∷ NoTime ∷ NoTime ∷ []
signs_of_timestamps = refl

signs_of_others : (sign_of_body 33 (Skipped []) ∷ sign_of_body 34 (Skipped []) ∷ sign_of_body 18 (Skipped []) ∷ sign_of_body 3 (Skipped [])
    ∷ sign_of_body 35 (Skipped []) ∷ sign_of_body 4 (Rotate 4 (codes "n.2")) ∷ sign_of_body 15 (Format [] 0 [] 0 0) ∷ sign_of_body 16 (XidEvent 1)
    ∷ sign_of_body 19 map_row.1 ∷ sign_of_body 30 insert_row.1 ∷ sign_of_body 38 (XaPrepare 1 g1) ∷ [])
    ≡ Gtid ∷ Gtid ∷ Foreign ∷ Quiet ∷ Quiet ∷ Quiet ∷ Quiet ∷ NumberEvent ∷ RowEvent map_row ∷ RowEvent insert_row ∷ PrepareEvent 1 g1 ∷ []
signs_of_others = refl

-- a marked text is a statement where its database has at most 64 bytes, its text at least one, and that text is no verb
signs_of_marks : map (λ (text : List ℕ). sign_of_body 29 (RowsQuery 0 text)) (create ∷ codes "DDL::::x" ∷ codes "DDL::d1::" ∷ codes "DDL::d1"
    ∷ codes "DDL::" ∷ codes "DDL::d1::BEGIN" ∷ codes "DDL::d1:: xa start" ∷ (codes "DDL::" ++ (replicate 64 97 ++ codes "::x"))
    ∷ (codes "DDL::" ++ (replicate 65 97 ++ codes "::x")) ∷ codes "DDL:d1::x" ∷ codes "ddl::d1::x" ∷ codes "" ∷ [])
    ≡ Ddl (29, RowsQuery 0 create) ∷ Ddl (29, RowsQuery 0 (codes "DDL::::x")) ∷ Marked ∷ Marked
    ∷ Marked ∷ Marked ∷ Marked ∷ Ddl (29, RowsQuery 0 (codes "DDL::" ++ (replicate 64 97 ++ codes "::x")))
    ∷ Marked ∷ Quiet ∷ Quiet ∷ Quiet ∷ []
unfolding statement_in
signs_of_marks = refl

-- an event keeps its place, the setting behind it, and its seconds
a_beat_signed : signed (record {
  at = 123;
  end = 151;
  event = record {
    header = record { seconds = 5; kind = 200; server = 9; length = 28; next = 151; flags = 0 };
    body = Timestamp 2 10;
  };
  checksum = 1;
})
    ≡ record { at = 123; end = 151; checksum = 1; seconds = 5; sign = BeatTime 10 }
a_beat_signed = refl

-- ---- logs: events laid one behind another, each as its length and its sign

abbrev laid : ℕ → List (ℕ × Sign) → List SignedEvent
laid at [] = []
laid at (event ∷ events) = record { at = at; end = at + event.0; checksum = 0; seconds = 5; sign = event.1 } ∷ laid (at + event.0) events

-- behind the magic, a format event of 119 bytes, and these
abbrev read : List (ℕ × Sign) → List LogEntry × Ending
read events = outcome 1 Out (laid 4 ((119, Quiet) ∷ events))

abbrev entry : EntryKind → ℕ → ℕ → LogEntry
entry kind at end = record { kind = kind; at = record { file = 1; at = at }; end = record { file = 1; at = end }; checksum = 0 }

abbrev misplaced : ℕ → ℕ → Sign → GroupFault → Ending
misplaced at end sign fault = Misplaced (record { at = at; end = end; checksum = 0; seconds = 5; sign = sign }) fault

abbrev group : ℕ → Xid → List (ℕ × Sign) → List (ℕ × Sign)
group one_phase xid rows = (55, XaStartText xid) ∷ (rows ++ (53, XaEndText xid) ∷ (34, PrepareEvent one_phase xid) ∷ [])

abbrev two_rows : List (ℕ × Sign)
two_rows = (39, RowEvent map_row) ∷ (36, RowEvent insert_row) ∷ []

abbrev commit : Xid → ℕ → List (ℕ × Sign)
commit xid timestamp = (28, CommitTime timestamp) ∷ (56, XaCommitText xid) ∷ []

abbrev beat : ℕ → List (ℕ × Sign)
beat timestamp = (28, BeatTime timestamp) ∷ []

abbrev local : List (ℕ × Sign)
local = (38, BeginText) ∷ (27, NumberEvent) ∷ []

a_pair : read (group 0 g1 [] ++ commit g1 10) ≡ (entry (Prepare g1 []) 231 265 ∷ entry (Commit g1 10 5) 293 349 ∷ [], Reached Out)
a_pair = refl

overlapping : read (group 0 g1 [] ++ (group 0 g2 [] ++ (commit g2 20 ++ (commit g1 10 ++ beat 30))))
    ≡ (
      entry (Prepare g1 []) 231 265 ∷ entry (Prepare g2 []) 373 407 ∷ entry (Commit g2 20 5) 435 491 ∷ entry (Commit g1 10 5) 519 575
          ∷ entry (Beat 30) 575 603 ∷ [],
      Reached Out,
    )
overlapping = refl

local_between_beats : read (beat 10 ++ (local ++ beat 11))
    ≡ (entry (Beat 10) 123 151 ∷ entry (Plain [] 5) 189 216 ∷ entry (Beat 11) 216 244 ∷ [], Reached Out)
local_between_beats = refl

one_behind_the_other : read (group 0 g1 [] ++ (commit g1 10 ++ (group 0 g2 [] ++ commit g2 10)))
    ≡ (entry (Prepare g1 []) 231 265 ∷ entry (Commit g1 10 5) 293 349 ∷ entry (Prepare g2 []) 457 491 ∷ entry (Commit g2 10 5) 519 575 ∷ [], Reached Out)
one_behind_the_other = refl

a_commit_alone : read (commit g1 10) ≡ (entry (Commit g1 10 5) 151 207 ∷ [], Reached Out)
a_commit_alone = refl

prepared_twice : read (group 0 g1 [] ++ group 0 g1 []) ≡ (entry (Prepare g1 []) 231 265 ∷ entry (Prepare g1 []) 373 407 ∷ [], Reached Out)
prepared_twice = refl

-- a node with ids of transactions, a statement outside groups, a local transaction and a branch with rows
ids_and_rows : map (λ (found : LogEntry). found.kind) (read ((31, Quiet) ∷ (65, Gtid) ∷ (60, OtherText) ∷ (28, BeatTime 5) ∷ (65, Gtid) ∷ (38, BeginText)
    ∷ (42, RowEvent map_row) ∷ (36, RowEvent insert_row) ∷ (27, NumberEvent) ∷ (65, Gtid) ∷ (55, XaStartText g1) ∷ (42, RowEvent map_row)
    ∷ (36, RowEvent insert_row) ∷ (53, XaEndText g1) ∷ (34, PrepareEvent 0 g1) ∷ (28, CommitTime 10) ∷ (65, Gtid) ∷ (56, XaCommitText g1)
    ∷ (28, BeatTime 11) ∷ [])).0
    ≡ Beat 5 ∷ Plain (map_row ∷ insert_row ∷ []) 5 ∷ Prepare g1 (map_row ∷ insert_row ∷ []) ∷ Commit g1 10 5 ∷ Beat 11 ∷ []
ids_and_rows = refl

one_phase : read ((28, CommitTime 10) ∷ (group 1 g1 [] ++ beat 11))
    ≡ (entry (OnePhase g1 [] 10 5) 259 293 ∷ entry (Beat 11) 293 321 ∷ [], Reached Out)
one_phase = refl

one_phase_without_a_timestamp : read (group 1 g1 [] ++ beat 11) ≡ ([], misplaced 231 265 (PrepareEvent 1 g1) NoTimestamp)
one_phase_without_a_timestamp = refl

a_statement : read (group 0 g1 ((51, Ddl create_row) ∷ []) ++ commit g1 10)
    ≡ (entry (Prepare g1 (create_row ∷ [])) 282 316 ∷ entry (Commit g1 10 5) 344 400 ∷ [], Reached Out)
a_statement = refl

a_statement_behind_rows : read (group 0 g1 (two_rows ++ (51, Ddl create_row) ∷ []) ++ commit g1 10) ≡ ([], misplaced 253 304 (Ddl create_row) BadDdl)
a_statement_behind_rows = refl

-- a rollback drops a local transaction, and of a branch it is an entry
rolled_back : read ((38, BeginText) ∷ (two_rows ++ (43, RollbackText) ∷ (58, XaRollbackText g1) ∷ []))
    ≡ (entry (Rollback g1) 279 337 ∷ [], Reached Out)
rolled_back = refl

-- what is unfinished at the end gives nothing
unfinished : map (λ events. read (commit g1 10 ++ events)) (((28, CommitTime 20) ∷ []) ∷ ((55, XaStartText g2) ∷ two_rows) ∷ ((38, BeginText) ∷ []) ∷ [])
    ≡ (entry (Commit g1 10 5) 151 207 ∷ [], Reached (Wait 20))
    ∷ (entry (Commit g1 10 5) 151 207 ∷ [], Reached (Xa None g2 (TableRows (map_row ∷ insert_row ∷ []))))
    ∷ (entry (Commit g1 10 5) 151 207 ∷ [], Reached (Local [])) ∷ []
unfinished = refl
