pub mod Seeing
pub mod Holding
pub mod Answering
pub mod Pieces
pub mod Files
