pub mod Size
pub mod Segments
pub mod Rest
pub mod Shown
pub mod Names
pub mod Written
