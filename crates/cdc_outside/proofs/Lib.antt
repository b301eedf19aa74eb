pub mod Blocks
pub mod Changes
mod Highest
mod Lowest
pub mod Moments
pub mod Pending
mod Piece
pub mod Pieces
pub mod Waiting
