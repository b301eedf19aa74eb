pub mod KeyTests
mod Heads
pub mod Following
mod Heading
mod Playing
mod Entering
mod Gathering
mod Growing
mod Counting
