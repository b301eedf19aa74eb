pub mod Doors
pub mod Ends
pub mod Links
pub mod Numbers
pub mod Server
