pub mod Item
pub mod Jobs
pub mod Laws
