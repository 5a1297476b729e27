pub mod Heads
pub mod Blocks
