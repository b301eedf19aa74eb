pub mod Contents
pub mod Taken
pub mod Steps
pub mod Whole
pub mod Names
