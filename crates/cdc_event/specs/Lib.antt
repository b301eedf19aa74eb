pub mod Number
pub mod Event
pub mod Table
pub mod Length
pub mod Reading
pub mod File
pub mod Laws
pub mod View
-- what other crates cite
pub use Rattle.cdc_event.specs.Number.{low_first, number_of}
pub use Rattle.cdc_event.specs.Event.{magic, header_bytes, body_bytes, event_bytes, is_rows_kind, has_kind, FitsBody, FitsHeader, IsEvent, Encodes}
pub use Rattle.cdc_event.specs.Table.{rule_for, renamed}
pub use Rattle.cdc_event.specs.Length.{HasGoodLength, HasLengthFault, kept_header, kept_bytes}
pub use Rattle.cdc_event.specs.Reading.{HasKnownAlgorithm, HasFault, event_of}
pub use Rattle.cdc_event.specs.View.{body_viewed, event_viewed, result_viewed}
pub use Rattle.cdc_event.specs.File.{PlacedEvent, BeginsWith, setting_behind, IsWhole, IsFaulty, IsUnfinished, AreEvents, AreFileEvents, AreEventsFrom, FilesHaveOneReading, EachIsRead, GrownFileContinues, RestIsRead}
