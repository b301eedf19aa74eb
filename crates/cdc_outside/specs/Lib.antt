pub mod Count
pub mod Disk
pub mod Door
pub mod Link
pub mod Sink
pub mod Source
