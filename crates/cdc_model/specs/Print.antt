-- The printed form of a transaction: the events that it has in an output file.
use Rattle.std.specs.Prelude.{ℕ, zero, suc, ◌+◌, ◌/◌, ◌%◌, ◌==◌, ◌&&◌, not, nat_le, nat_eq, Bool, List, [], ◌∷◌, ◌++◌, length, drop, codes, map, filter, if◌then◌else◌, Option, Some, None, is_none}
use Rattle.std.specs.List.{flat_map, filter_map, starts_with, sum_by}
use Rattle.std.specs.Option.{option_map, option_and_then}
use Rattle.std.specs.Cmp.Lexicographic.{pointwise}
use Rattle.hex.specs.Hex.{encode_lower}
use Rattle.cdc_base.specs.declared.key.Key.{Key}
use Rattle.cdc_base.specs.declared.key.Key.TheVariants.{Shared, Plain}
use Rattle.cdc_base.specs.declared.rename.Rename.{Rename}
use Rattle.cdc_event.specs.declared.body.Body.{Body}
use Rattle.cdc_event.specs.declared.body.Body.TheVariants.{Query, Xid, RowsQuery}
use Rattle.cdc_event.specs.Event.{event_bytes, body_bytes}
use Rattle.cdc_event.specs.Table.{renamed}
use Rattle.cdc_model.specs.Records.{Row, CommittedBranch, Transaction}

-- a number in so many decimal digits
unfoldable pub digits : ℕ → ℕ → List ℕ
digits zero number = []
digits (suc places) number = digits places (number / 10) ++ (48 + number % 10) ∷ []

-- the text of a transaction's mark: its order key
unfoldable pub mark_text : Key → List ℕ
mark_text (Shared timestamp gtrid) = codes "CTS::" ++ (digits 19 timestamp ++ (codes "::0::" ++ encode_lower gtrid))
mark_text (Plain timestamp node entry) = codes "CTS::" ++ (digits 19 timestamp ++ (codes "::1::" ++ (digits 5 node ++ digits 20 entry)))

-- ---- statements of the whole database

-- a statement: the database that it speaks of, and its text
abbrev pub Statement : Type 0
Statement = List ℕ × List ℕ

-- what stands before and behind the first `::`
abbrev pub split_at_colons : List ℕ → Option Statement
split_at_colons [] = None
split_at_colons (byte ∷ rest) =
    if starts_with nat_eq (byte ∷ rest) (58 ∷ 58 ∷ []) then Some ([], drop 1 rest)
    else option_map (λ split. (byte ∷ split.0, split.1)) (split_at_colons rest)

-- a database of at most 64 bytes, and a text of at least one
abbrev pub well_formed : Statement → Option Statement
well_formed statement = if nat_le (length statement.0) 64 && nat_le 1 (length statement.1) then Some statement else None

-- the statement that a marked text spells: `DDL::`, the database, `::`, the text
unfoldable pub statement_in : List ℕ → Option Statement
statement_in text =
    if starts_with nat_eq text (codes "DDL::") then option_and_then well_formed (split_at_colons (drop 5 text)) else None

-- the statement of one row
abbrev pub row_statement : Body → Option Statement
row_statement (RowsQuery size text) = statement_in text
row_statement body = None

-- the statement of a branch: its one row is of type 29 and spells it
abbrev pub branch_statement : List Row → Option Statement
branch_statement [] = None
branch_statement (row ∷ []) = if row.0 == 29 then row_statement row.1 else None
branch_statement (row ∷ other ∷ rows) = None

-- two statements have the same database and text
abbrev pub same_statement : Statement → Statement → Bool
same_statement a b = pointwise nat_eq a.0 b.0 && pointwise nat_eq a.1 b.1

-- each different statement once, in the order in which they first come
abbrev pub distinct : List Statement → List Statement
distinct [] = []
distinct (statement ∷ rest) = statement ∷ filter (λ other. not (same_statement statement other)) (distinct rest)

-- ---- the events of a transaction, each a type and a body

-- the BEGIN of a print
abbrev pub begin_event : Row
begin_event = (2, Query 0 0 0 [] [] (codes "BEGIN"))

-- the mark of a key
abbrev pub mark_event : Key → Row
mark_event key = (29, RowsQuery (length (mark_text key)) (mark_text key))

-- the end of a print, under its number
abbrev pub xid_event : ℕ → Row
xid_event number = (16, Xid number)

-- a statement of the whole database, as a query
abbrev pub statement_event : Statement → Row
statement_event statement = (2, Query 0 0 0 [] statement.0 statement.1)

-- the rows of some branches, branch by branch, with their tables renamed
abbrev pub row_events : List Rename → List CommittedBranch → List Row
row_events rules branches = flat_map (λ branch. map (λ row. (row.0, renamed rules row.1)) branch.rows) branches

-- the branches' statements, and the branches without one
abbrev pub statements_of : List CommittedBranch → List Statement
statements_of branches = filter_map (λ branch. branch_statement branch.rows) branches

-- the branches that carry no statement
abbrev pub without_statement : List CommittedBranch → List CommittedBranch
without_statement branches = filter (λ branch. is_none (branch_statement branch.rows)) branches

-- a transaction of rows alone: BEGIN, the rows, the mark, XID
abbrev pub rows_print : List Rename → ℕ → Key → List CommittedBranch → List Row
rows_print rules number key branches =
    begin_event ∷ row_events rules branches ++ (mark_event key ∷ xid_event number ∷ [])

-- rows behind statements: BEGIN, the rows, XID, where some branch has no statement
abbrev pub rows_behind : List Rename → ℕ → List CommittedBranch → List Row
rows_behind rules number [] = []
rows_behind rules number (branch ∷ branches) =
    begin_event ∷ row_events rules (branch ∷ branches) ++ (xid_event number ∷ [])

-- the events of a transaction: with no statement those of its rows; else the mark, each different statement,
-- and the rows of the branches without one
abbrev pub events_of : List Rename → ℕ → Key → List CommittedBranch → List Statement → List Row
events_of rules number key branches [] = rows_print rules number key branches
events_of rules number key branches (statement ∷ statements) =
    mark_event key ∷ map statement_event (distinct (statement ∷ statements)) ++ rows_behind rules number (without_statement branches)

-- a transaction's events, as they are printed
abbrev pub printed_events : List Rename → Transaction → List Row
printed_events rules txn = events_of rules txn.number txn.key txn.branches (statements_of txn.branches)

-- ---- their bytes

-- an event's length
abbrev pub row_length : Row → ℕ
row_length event = 19 + length (body_bytes event.1)

-- an event as it is printed at a place: server 1, no flags, and the place behind it as its next position
abbrev pub printed_event : ℕ → ℕ → Row → List ℕ
printed_event at seconds event = event_bytes record {
  header = record {
    seconds = seconds;
    kind = event.0;
    server = 1;
    length = row_length event;
    next = at + row_length event;
    flags = 0;
  };
  body = event.1;
}

-- events one behind another, from a place on
abbrev pub laid : ℕ → ℕ → List Row → List ℕ
laid at seconds [] = []
laid at seconds (event ∷ events) = printed_event at seconds event ++ laid (at + row_length event) seconds events

-- the bytes of a transaction that begins at a place of its file
abbrev pub printed_bytes : List Rename → Transaction → ℕ → List ℕ
printed_bytes rules txn at = laid at txn.seconds (printed_events rules txn)

-- their number, whatever the place
abbrev pub printed_length : List Rename → Transaction → ℕ
printed_length rules txn = sum_by row_length (printed_events rules txn)
