pub mod Disks
pub mod Job
pub mod JobLaws
pub mod Standing
pub mod Taking
