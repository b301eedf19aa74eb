pub mod Standing
pub mod Rising
pub mod Behind
pub mod Points
