pub mod Outcomes
pub mod Lists
pub mod OpenOuts
pub mod OutAnswers
pub mod TaskAnswers
pub mod OpenSources
pub mod SourceAnswers
pub mod Answers
