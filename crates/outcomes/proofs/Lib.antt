mod Children
mod Opening
mod Gathered
mod Walked
mod Collected
mod Freshness
mod Once
mod Root
mod Completed
mod Named
mod Admitting
mod Fates
mod Ended
pub mod Fields
pub mod Written
pub mod Forms
pub mod Walks
pub mod Executing
pub mod Kept
pub mod Stages
pub mod Steps
pub mod Results
pub mod Quotas
