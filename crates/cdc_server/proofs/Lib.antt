pub mod Causes
pub mod OneDoor
pub mod Posts
pub mod Serving
pub mod Told
