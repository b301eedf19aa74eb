-- The parts of a transaction's print.
use Rattle.std.specs.Prelude.{List, [], ◌∷◌, ◌++◌}
use Rattle.cdc_base.specs.declared.rename.Rename.{Rename}
use Rattle.cdc_model.specs.Records.{Row, Transaction}
use Rattle.cdc_model.specs.Print.{begin_event, mark_event, xid_event, row_events, without_statement}
use Rattle.cdc_writer.specs.Statements.{all_statement_events}

-- the rows, in the order of a transaction without statements
abbrev pub alone_events : List Rename → Transaction → List Row
alone_events rules txn =
    begin_event ∷ (row_events rules (without_statement txn.branches) ++ (mark_event txn.key ∷ xid_event txn.number ∷ []))

-- the mark and the statements
abbrev pub marked_events : Transaction → List Row
marked_events txn = mark_event txn.key ∷ all_statement_events txn.branches

-- the rows behind statements
abbrev pub behind_events : List Rename → Transaction → List Row
behind_events rules txn =
    begin_event ∷ (row_events rules (without_statement txn.branches) ++ (xid_event txn.number ∷ []))
