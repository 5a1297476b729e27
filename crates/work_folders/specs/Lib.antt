pub mod Rights
pub mod Reading
