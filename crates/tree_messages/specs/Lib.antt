pub mod Directories
pub mod Results
pub mod GetTree
pub mod ActionCache
