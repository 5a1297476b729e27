pub mod CommandLine
pub mod Shown
pub mod Size
