-- What the rows of a log's entries are: table maps and row events, or one statement of the whole database.
use Rattle.std.specs.Prelude.{◌≡◌, ◌⊎◌, ℕ, Bool, true, false, IsTrue, List, [], ◌∷◌, Option, Some, None}
use Rattle.std.specs.List.{AllByRecursion}
use Rattle.cdc_base.specs.declared.place.Place.{Place}
use Rattle.cdc_event.specs.declared.body.Body.{Body}
use Rattle.cdc_event.specs.declared.body.Body.TheVariants.{TableMap, Rows}
use Rattle.cdc_event.specs.Event.{has_kind}
use Rattle.cdc_query.specs.Words.{verb_of}
use Rattle.cdc_model.specs.declared.entry.EntryKind.{EntryKind}
use Rattle.cdc_model.specs.declared.entry.EntryKind.TheVariants.{Prepare, OnePhase, Commit, Rollback, Plain, Beat}
use Rattle.cdc_model.specs.declared.fault.NodeFault.{NodeFault}
use Rattle.cdc_model.specs.Records.{Row, LogEntry}
use Rattle.cdc_model.specs.Print.{Statement, row_statement, branch_statement}
use Rattle.cdc_model.specs.Sign.{is_other}
use Rattle.cdc_model.specs.Entries.{AreLogEntries}

-- a table map, or the body of a row event
abbrev pub is_table_body : Body → Bool
is_table_body (TableMap table flags db name rest) = true
is_table_body (Rows bytes) = true
is_table_body _ = false

-- a table map or a row event, under its type
pub record IsTableRow (row : Row) : Type 0 where
  pub table : is_table_body row.1 ≡ true
  pub kind : IsTrue (has_kind row.1 row.0)

-- a text of type 29 that spells a statement of the whole database, whose own text is no transaction's verb
pub record IsStatementRow (row : Row) (statement : Statement) : Type 0 where
  pub kind : row.0 ≡ 29
  pub spelled : row_statement row.1 ≡ Some statement
  pub other : is_other (verb_of statement.1) ≡ true

-- the rows of a branch: those of tables, or one statement
abbrev pub AreBranchRows : List Row → Type 0
AreBranchRows rows =
    AllByRecursion IsTableRow rows ⊎ ((row : Row) × (statement : Statement) × (rows ≡ row ∷ []) × IsStatementRow row statement)

-- an entry's rows are such; a local transaction has no statement
abbrev pub HasGrammarRows : EntryKind → Type 0
HasGrammarRows (Prepare xid rows) = AreBranchRows rows
HasGrammarRows (OnePhase xid rows timestamp seconds) = AreBranchRows rows
HasGrammarRows (Commit xid timestamp seconds) = Unit {0}
HasGrammarRows (Rollback xid) = Unit {0}
HasGrammarRows (Plain rows seconds) = AllByRecursion IsTableRow rows
HasGrammarRows (Beat timestamp) = Unit {0}

-- law: the rows of a log's entries are those of tables, or one statement of the whole database
abbrev pub RowsAreOfTablesOrOneStatement : Type 0
RowsAreOfTablesOrOneStatement = (files : List (List ℕ)) (entries : List LogEntry) (fault : Option (Place × NodeFault))
    → AreLogEntries files entries fault → AllByRecursion (λ (entry : LogEntry). HasGrammarRows entry.kind) entries

-- law: rows of tables have no statement, and one statement alone is read as it is
pub record ReadsStatements : Type 0 where
  pub none : (rows : List Row) → AllByRecursion IsTableRow rows → branch_statement rows ≡ None
  pub one : (row : Row) (statement : Statement) → IsStatementRow row statement → branch_statement (row ∷ []) ≡ Some statement
