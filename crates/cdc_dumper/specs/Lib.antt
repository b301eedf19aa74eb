pub mod Moves
pub mod Opening
pub mod Shape
pub mod State
