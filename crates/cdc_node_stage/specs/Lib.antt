pub mod Feeding
pub mod Sending
pub mod Turning
pub mod Preparing
pub mod Job
pub mod NodeLaws
