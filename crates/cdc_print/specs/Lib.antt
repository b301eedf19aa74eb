pub mod Waiting
pub mod Outcome
pub mod Printed
pub mod Reading
pub mod Running
