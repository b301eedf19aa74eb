pub mod DiskContents
pub mod Draws
pub mod Handing
pub mod Picks
pub mod Replays
