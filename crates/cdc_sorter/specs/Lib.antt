pub mod Waiting
pub mod Trail
pub mod Points
pub mod Cut
pub mod Sorting
pub mod Seen
