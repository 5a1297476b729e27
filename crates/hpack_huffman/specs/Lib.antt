pub mod Lengths
pub mod Code
pub mod Grammar
pub mod Reading
pub mod Answers
pub mod Left
pub mod Table
