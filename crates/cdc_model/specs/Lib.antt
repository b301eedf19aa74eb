pub mod Row
pub mod Run
pub mod Records
pub mod Layout
pub mod Kept
pub mod Log
pub mod Sign
pub mod Group
pub mod Misfit
pub mod Entries
pub mod Start
pub mod Watermark
pub mod Soundness
pub mod Branch
pub mod Print
pub mod Transaction
pub mod Output
pub mod Unit
pub mod Openings
pub mod Commits
pub mod FirstFault
pub mod SettledOrder
pub mod Feed
pub mod Advance
pub mod ReadFrom
pub mod GrammarRows
pub mod Growth
pub mod Restart
pub mod OneFile
pub mod NodeReading
pub mod RestartNodes
pub mod NodeCuts
-- what other crates cite
pub use Rattle.cdc_model.specs.Records.{CommittedBranch, LogEntry, OpenBranch, OutputUnit}
pub use Rattle.cdc_model.specs.Layout.{HasRoom, IsRotation, begins_file, next_file, next_place}
pub use Rattle.cdc_model.specs.Kept.{IsKeptKey, IsKeptKind}
pub use Rattle.cdc_model.specs.Start.{beginning, enter, left_by, next}
pub use Rattle.cdc_model.specs.Soundness.{IsCounted, sound_entries}
pub use Rattle.cdc_model.specs.Print.{Statement, begin_event, branch_statement, digits, distinct, laid, mark_event, mark_text, printed_bytes, printed_event, printed_length, row_events, row_length, row_statement, rows_behind, same_statement, split_at_colons, statement_event, statement_in, statements_of, well_formed, without_statement, xid_event}
pub use Rattle.cdc_model.specs.Output.{file_head, file_name, last_place, prints_at, rotate_event, unrotated_file}
pub use Rattle.cdc_model.specs.Unit.{IsOutputStepFrom, print_place, unit_of}
