pub mod Wire
pub mod Reading
pub mod Reader
pub mod Step
pub mod Writing
