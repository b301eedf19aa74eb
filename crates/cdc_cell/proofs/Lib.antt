pub mod Alone
pub mod Filling
pub mod Flags
pub mod Gates
pub mod Heads
pub mod Known
pub mod Ready
pub mod Steps
