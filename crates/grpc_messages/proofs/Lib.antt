pub mod Fronts
pub mod Steps
pub mod Grammar
pub mod Buffers
