pub mod Getting
pub mod Handing
pub mod Laws
