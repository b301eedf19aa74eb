pub mod ChainLaw
pub mod ChainLemmas
pub mod Windows
