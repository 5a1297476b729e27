pub mod Session
pub mod UnaryOutcome
pub mod Printed
pub mod ReplayOutcome
pub mod Outputs
pub mod Exchange
pub mod Output
pub mod Status
