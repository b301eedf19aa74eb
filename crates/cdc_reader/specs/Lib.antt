pub mod Fed
pub mod Asking
pub mod LogFront
pub mod Filling
pub mod Standing
pub mod Seen
