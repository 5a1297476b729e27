pub mod Launching
pub mod Spawning
pub mod Ways
pub mod Known
pub mod Streams
