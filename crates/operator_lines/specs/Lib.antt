pub mod Words
pub mod Mistakes
