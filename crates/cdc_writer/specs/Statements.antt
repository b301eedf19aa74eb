-- Statements of branches, one branch after another.
use Rattle.std.specs.Prelude.{ℕ, ◌+◌, ◌^◌, ◌≤◌, Bool, false, List, [], ◌∷◌, ◌++◌, length, map, if◌then◌else◌, Option, Some, None, is_none}
use denote.Ref.{Bor}
use Rattle.std.specs.List.{list_any}
use Rattle.cdc_base.specs.declared.rename.Rename.{Rename}
use Rattle.cdc_model.specs.Records.{Row, CommittedBranch}
use Rattle.cdc_model.specs.Print.{Statement, branch_statement, same_statement, statement_event, distinct, statements_of}
use Rattle.cdc_writer.specs.Events.{renamed_rows}

-- whether a branch's statement is this one
abbrev pub is_statement : Statement → Option Statement → Bool
is_statement statement None = false
is_statement statement (Some other) = same_statement other statement

-- whether a branch among these has this statement
abbrev pub is_known : List CommittedBranch → Statement → Bool
is_known branches statement = list_any (λ branch. is_statement statement (branch_statement branch.rows)) branches

-- a branch's statement where it has one, unless a branch before it has it too
abbrev pub new_statement : List CommittedBranch → Option Statement → List Statement
new_statement before None = []
new_statement before (Some statement) = if is_known before statement then [] else statement ∷ []

-- the events of a branch's new statement
abbrev pub statement_events : List CommittedBranch → CommittedBranch → List Row
statement_events before branch = map statement_event (new_statement before (branch_statement branch.rows))

-- the events of a branch's rows: none where it has a statement
abbrev pub branch_events : List Rename → CommittedBranch → List Row
branch_events rules branch = if is_none (branch_statement branch.rows) then renamed_rows rules branch.rows else []

-- a statement that may be printed
pub record IsShort (statement : Statement) : Type 0 where
  pub database : length statement.0 ≤ 64
  pub most : 33 + length statement.0 + length statement.1 ≤ 2 ^ 27 + 256

-- the events of all statements, each statement once
abbrev pub all_statement_events : List CommittedBranch → List Row
all_statement_events branches = map statement_event (distinct (statements_of branches))

-- the statements that a set keeps, each as its database and its text
abbrev pub told : List (Bor (List ℕ) × Bor (List ℕ)) → List Statement
told statements = map (λ (statement : Bor (List ℕ) × Bor (List ℕ)). (statement.0.now, statement.1.now)) statements

-- a branch's statement behind the others where it has one that isn't among them
abbrev pub with_statement : Option Statement → List Statement → List Statement
with_statement None statements = statements
with_statement (Some statement) statements =
    if list_any (same_statement statement) statements then statements else statements ++ statement ∷ []
