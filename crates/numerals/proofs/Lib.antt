pub mod Steps
pub mod Fronts
pub mod Groups
pub mod NumberLemmas
