pub mod Cell
pub mod Reading
pub mod Record
pub mod Slot
