pub mod Command
pub mod Packet
pub mod Pieces
pub mod Request
