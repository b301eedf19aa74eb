use Rattle.cdc_model.proofs.GrammarRows.{rows_are_of_tables_or_one_statement}
use Rattle.cdc_model.proofs.reading_laws.rows_are_of_tables_or_one_statement.Goals as goal

pub returns : goal.returns
returns c = rows_are_of_tables_or_one_statement
