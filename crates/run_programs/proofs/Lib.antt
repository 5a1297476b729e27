pub mod Looking
pub mod Starts
pub mod Known
