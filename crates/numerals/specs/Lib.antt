pub mod Results
pub mod Groups
pub mod Number
