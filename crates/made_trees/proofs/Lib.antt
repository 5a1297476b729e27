mod Keeping
pub mod Staying
pub mod AnySite
mod Claimed
mod OfInstances
mod Others
