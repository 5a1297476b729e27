pub mod Changes
pub mod Responses
pub mod Ranges
pub mod Reads
pub mod Answerable
