mod Counts
pub mod Tables
