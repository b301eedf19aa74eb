pub mod Counting
pub mod Lanewise
mod NextFlow
mod OneTurn
pub mod Pairwise
mod Stuck
pub mod Turnings
