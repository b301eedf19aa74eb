pub mod OnePoint
pub mod WorkedFront
pub mod WorkedPoint
