pub mod Dump
pub mod Ends
pub mod Finding
pub mod Following
pub mod Packing
pub mod Reading
pub mod Reply
pub mod Shelf
