pub mod Jobs
pub mod Changes
pub mod Order
pub mod Sums
pub mod Stages
pub mod Codes
