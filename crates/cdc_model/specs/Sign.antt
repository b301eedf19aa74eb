-- What an event says in a node's log: the signs of which the log's grammar speaks.
use Rattle.std.specs.Prelude.{◌^◌, ◌-◌, ◌==◌, ◌&&◌, ◌||◌, ℕ, Bool, true, false, nat_le, nat_eq, List, codes, if◌then◌else◌, Option, Some, None}
use Rattle.std.specs.List.{starts_with}
use Rattle.cdc_base.specs.declared.xid.Xid.{Xid}
use Rattle.cdc_event.specs.declared.body.Body.{Body}
use Rattle.cdc_event.specs.declared.body.Body.TheVariants.{Format, Query, Rotate, RowsQuery, TableMap, Rows, XaPrepare, Timestamp, Skipped}
use Rattle.cdc_event.specs.declared.body.Body.TheVariants.{Xid as XidEvent}
use Rattle.cdc_event.specs.declared.event.Event.{Event}
use Rattle.cdc_event.specs.File.{PlacedEvent}
use Rattle.cdc_query.specs.declared.verb.Verb.{Verb}
use Rattle.cdc_query.specs.declared.verb.Verb.TheVariants.{Begin, Commit, Rollback, Savepoint, XaStart, XaEnd, XaCommit, XaRollback, XaOther, Other}
use Rattle.cdc_query.specs.Words.{verb_of}
use Rattle.cdc_model.specs.Records.{Row}
use Rattle.cdc_model.specs.Print.{Statement, statement_in}

-- what an event says in a log
pub data Sign : Type 0 where
  -- a transaction's id in its own event, named or not
  Gtid : Sign
  -- an event that says nothing here: a format or rotation event, a comment, any type that is passed over
  Quiet : Sign
  -- a marked text that is a statement of the whole database
  Ddl : Row → Sign
  -- a marked text that is none
  Marked : Sign
  -- the commit timestamp of the group behind it
  CommitTime : ℕ → Sign
  -- a timestamp that no later commit has or falls below
  BeatTime : ℕ → Sign
  -- a timestamp of another class, or of 0, or above 2^63 - 1
  NoTime : Sign
  -- a table map or row event
  RowEvent : Row → Sign
  -- the end of a local transaction, by its number
  NumberEvent : Sign
  -- an XA prepare: 0 for the first of two phases, else both at once
  PrepareEvent : ℕ → Xid → Sign
  -- statement texts, by their verbs
  BeginText : Sign
  CommitText : Sign
  RollbackText : Sign
  SavepointText : Sign
  XaStartText : Xid → Sign
  XaEndText : Xid → Sign
  XaCommitText : Xid → Sign
  XaRollbackText : Xid → Sign
  OtherText : Sign
  -- what may change data and leaves no row events: an unknown XA text, a load of a file as a statement
  Foreign : Sign

-- a statement of the whole database: one that a marked text spells, whose own text is no transaction's verb
abbrev pub is_other : Verb → Bool
is_other Begin = false
is_other Commit = false
is_other Rollback = false
is_other Savepoint = false
is_other (XaStart xid) = false
is_other (XaEnd xid) = false
is_other (XaCommit xid) = false
is_other (XaRollback xid) = false
is_other XaOther = false
is_other Other = true

-- a marked text spells a statement whose own text is no verb of a transaction
abbrev pub is_ddl : Option Statement → Bool
is_ddl None = false
is_ddl (Some statement) = is_other (verb_of statement.1)

-- the sign of a text in a ROWS_QUERY event: marked where it begins with `DDL::`
abbrev pub sign_of_rows_query : ℕ → ℕ → List ℕ → Sign
sign_of_rows_query kind size text =
    if starts_with nat_eq text (codes "DDL::")
    then (if is_ddl (statement_in text) then Ddl (kind, RowsQuery size text) else Marked)
    else Quiet

-- the sign of a statement's text, by its verb
abbrev pub sign_of_verb : Verb → Sign
sign_of_verb Begin = BeginText
sign_of_verb Commit = CommitText
sign_of_verb Rollback = RollbackText
sign_of_verb Savepoint = SavepointText
sign_of_verb (XaStart xid) = XaStartText xid
sign_of_verb (XaEnd xid) = XaEndText xid
sign_of_verb (XaCommit xid) = XaCommitText xid
sign_of_verb (XaRollback xid) = XaRollbackText xid
sign_of_verb XaOther = Foreign
sign_of_verb Other = OtherText

-- timestamps are from 1 to 2^63 - 1, of class 1 before a group and of class 2 alone
abbrev pub sign_of_time : ℕ → ℕ → Sign
sign_of_time class value =
    if nat_le 1 value && nat_le value (2 ^ 63 - 1)
    then (if class == 1 then CommitTime value else if class == 2 then BeatTime value else NoTime)
    else NoTime

-- types without a layout of their own: 33 and 34 are ids, 18 loads a file as a statement
abbrev pub sign_of_skipped : ℕ → Sign
sign_of_skipped kind = if kind == 18 then Foreign else if (kind == 33) || (kind == 34) then Gtid else Quiet

-- the sign of a body under its type
abbrev pub sign_of_body : ℕ → Body → Sign
sign_of_body kind (Format text created lengths checksum tail) = Quiet
sign_of_body kind (Query thread seconds error status db text) = sign_of_verb (verb_of text)
sign_of_body kind (Rotate position name) = Quiet
sign_of_body kind (XidEvent number) = NumberEvent
sign_of_body kind (RowsQuery size text) = sign_of_rows_query kind size text
sign_of_body kind (TableMap table flags db name rest) = RowEvent (kind, TableMap table flags db name rest)
sign_of_body kind (Rows bytes) = RowEvent (kind, Rows bytes)
sign_of_body kind (XaPrepare one_phase xid) = PrepareEvent one_phase xid
sign_of_body kind (Timestamp class value) = sign_of_time class value
sign_of_body kind (Skipped bytes) = sign_of_skipped kind

-- the sign of an event
abbrev pub sign_of : Event → Sign
sign_of event = sign_of_body event.header.kind event.body

-- an event of a file as the grammar sees it: its place and the one behind it, the checksum setting behind it, its seconds, its sign
pub record SignedEvent : Type 0 where
  pub at : ℕ
  pub end : ℕ
  pub checksum : ℕ
  pub seconds : ℕ
  pub sign : Sign

-- an event of a file with its sign
abbrev pub signed : PlacedEvent → SignedEvent
signed placed = record { at = placed.at; end = placed.end; checksum = placed.checksum; seconds = placed.event.header.seconds; sign = sign_of placed.event }

-- ---- kinds of signs

-- quiet: it may stand anywhere but behind a commit timestamp
abbrev pub is_quiet : Sign → Bool
is_quiet Gtid = true
is_quiet Quiet = true
is_quiet (Ddl row) = true
is_quiet Marked = true
is_quiet _ = false

-- a transaction's id
abbrev pub is_gtid : Sign → Bool
is_gtid Gtid = true
is_gtid _ = false

-- quiet and not marked, or a savepoint
abbrev pub is_silent : Sign → Bool
is_silent Gtid = true
is_silent Quiet = true
is_silent SavepointText = true
is_silent _ = false

-- quiet, a savepoint, or a row: what may stand inside a local transaction
abbrev pub is_inner : Sign → Bool
is_inner Gtid = true
is_inner Quiet = true
is_inner (Ddl row) = true
is_inner Marked = true
is_inner SavepointText = true
is_inner (RowEvent row) = true
is_inner _ = false

-- the same, but not marked: what may stand inside an XA group without a statement
abbrev pub is_unmarked : Sign → Bool
is_unmarked Gtid = true
is_unmarked Quiet = true
is_unmarked SavepointText = true
is_unmarked (RowEvent row) = true
is_unmarked _ = false

-- outside a group it is passed over
abbrev pub is_passed : Sign → Bool
is_passed Gtid = true
is_passed Quiet = true
is_passed (Ddl row) = true
is_passed Marked = true
is_passed CommitText = true
is_passed RollbackText = true
is_passed SavepointText = true
is_passed OtherText = true
is_passed _ = false

-- the row of a sign, where it has one
abbrev pub row_of : Sign → Option Row
row_of (RowEvent row) = Some row
row_of _ = None
