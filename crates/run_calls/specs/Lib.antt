pub mod Values
pub mod Texts
pub mod Calls
pub mod Failures
pub mod Outcomes
pub mod Naming
pub mod Shown
pub mod Nodes
