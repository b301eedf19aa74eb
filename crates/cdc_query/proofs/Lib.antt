pub mod Agree
pub mod Back
pub mod Complete
pub mod Digits
pub mod Fixed
pub mod Ids
pub mod Pieces
pub mod Sound
