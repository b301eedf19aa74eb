-- The events of a step, as its node writes them.
use Rattle.std.specs.Prelude.{ℕ, ◌+◌, ◌*◌, List, [], ◌∷◌, ◌++◌, codes}
use Rattle.std.specs.Int.{w32, w64, to_be_bytes}
use Rattle.cdc_base.specs.declared.xid.Xid.{Xid as BranchXid}
use Rattle.cdc_event.specs.declared.body.Body.{Body}
use Rattle.cdc_event.specs.declared.body.Body.TheVariants.{Query, TableMap, Rows, XaPrepare, Timestamp, Xid}
use Rattle.cdc_event.specs.Number.{low_first}
use Rattle.cdc_query.specs.declared.verb.Verb.{Verb}
use Rattle.cdc_query.specs.declared.verb.Verb.TheVariants.{XaStart, XaEnd, XaCommit}
use Rattle.cdc_query.specs.Text.{canonical_text}
use Rattle.cdc_gen.specs.declared.step.StepKind.{StepKind}
use Rattle.cdc_gen.specs.declared.step.StepKind.TheVariants.{Prepare, Commit, Local, End}
use Rattle.cdc_gen.specs.declared.step.Step.{Step}

-- an event that has no place yet
pub record Unplaced : Type 0 where
  pub seconds : ℕ
  pub kind : ℕ
  pub body : Body

-- an event that has no place yet
abbrev pub unplaced : ℕ → ℕ → Body → Unplaced
unplaced seconds kind body = record { seconds = seconds; kind = kind; body = body }

-- the branch of a transaction on a node: its number in eight bytes, the node's in four, the highest byte first; format 1
abbrev pub branch_xid : ℕ → ℕ → BranchXid
branch_xid k node = record { gtrid = to_be_bytes w64 k; bqual = to_be_bytes w32 node; format = 1 }

-- a statement without a database and without status variables
abbrev pub query_body : List ℕ → Body
query_body text = Query 0 0 0 [] [] text

-- the query of an XA statement in its canonical text
abbrev pub xa_body : Verb → Body
xa_body verb = query_body (canonical_text verb)

-- the table map of table 1, d1.t1, with one column that may be null
unfoldable pub table_body : Body
table_body = TableMap 1 1 (codes "d1") (codes "t1") (1 ∷ 3 ∷ 0 ∷ 1 ∷ [])

-- a row event of table 1 that writes one row, of this value
unfoldable pub row_body : ℕ → Body
row_body k = Rows (1 ∷ 0 ∷ 0 ∷ 0 ∷ 0 ∷ 0 ∷ 1 ∷ 0 ∷ 2 ∷ 0 ∷ 1 ∷ 255 ∷ 0 ∷ low_first 4 k)

-- when a transaction's events are written
abbrev pub seconds_of : ℕ → ℕ
seconds_of k = 1700000000 + k

-- a branch with one row: XA START, table map, row event
abbrev pub start_events : ℕ → ℕ → List Unplaced
start_events k node =
    unplaced (seconds_of k) 2 (xa_body (XaStart (branch_xid k node)))
    ∷ unplaced (seconds_of k) 19 table_body
    ∷ unplaced (seconds_of k) 30 (row_body k)
    ∷ []

-- it is prepared: XA END, XA_PREPARE
abbrev pub finish_events : ℕ → ℕ → List Unplaced
finish_events k node =
    unplaced (seconds_of k) 2 (xa_body (XaEnd (branch_xid k node)))
    ∷ unplaced (seconds_of k) 38 (XaPrepare 0 (branch_xid k node))
    ∷ []

-- the group of a branch up to its prepare
abbrev pub prepare_events : ℕ → ℕ → List Unplaced
prepare_events k node = start_events k node ++ finish_events k node

-- a branch is committed at a timestamp
abbrev pub commit_events : ℕ → ℕ → List Unplaced
commit_events k node =
    unplaced (seconds_of k) 200 (Timestamp 1 (10 * k))
    ∷ unplaced (seconds_of k) 2 (xa_body (XaCommit (branch_xid k node)))
    ∷ []

-- a beat, and a transaction on this node alone
abbrev pub local_events : ℕ → List Unplaced
local_events k =
    unplaced (seconds_of k) 200 (Timestamp 2 (10 * k))
    ∷ unplaced (seconds_of k) 2 (query_body (codes "BEGIN"))
    ∷ unplaced (seconds_of k) 19 table_body
    ∷ unplaced (seconds_of k) 30 (row_body k)
    ∷ unplaced (seconds_of k) 16 (Xid k)
    ∷ []

-- the last beat
abbrev pub end_events : ℕ → List Unplaced
end_events count = unplaced 0 200 (Timestamp 2 (10 * count + 1)) ∷ []

-- the events of a kind of step
abbrev pub kind_events : StepKind → ℕ → ℕ → List Unplaced
kind_events Prepare number node = prepare_events number node
kind_events Commit number node = commit_events number node
kind_events Local number node = local_events number
kind_events End number node = end_events number

-- the events of a step
abbrev pub step_events : Step → List Unplaced
step_events step = kind_events step.kind step.number step.node
