pub mod Fronts
pub mod Lists
pub mod Loads
pub mod Orders
pub mod Points
pub mod Written
