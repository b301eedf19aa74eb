pub mod Heads
pub mod Bracket
pub mod Feeding
pub mod Rounds
pub mod Merging
