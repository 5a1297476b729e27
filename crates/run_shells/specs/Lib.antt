pub mod Asking
pub mod Ending
pub mod Removing
