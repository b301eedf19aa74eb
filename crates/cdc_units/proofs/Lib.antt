pub mod Units
pub mod Standing
pub mod Ending
