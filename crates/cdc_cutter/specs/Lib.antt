pub mod Pending
pub mod Looks
pub mod Cutting
-- what other crates cite
pub use Rattle.cdc_cutter.specs.Cutting.{Holds, Answers, placed_event, cut_viewed, behind_cut, passed_to, CanPass, MayPass, IsInFile, IsGoingOn}
