pub mod Threes
pub mod Zips
pub mod Rising
pub mod Keeping
pub mod Refusals
pub mod Found
pub mod OneMoreOut
pub mod OneMoreNode
