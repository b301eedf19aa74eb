pub mod Found
pub mod Places
pub mod Points
pub mod Openings
pub mod GoingOn
