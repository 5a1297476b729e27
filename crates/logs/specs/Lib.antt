pub mod LoggedSockets
pub mod LoggedRuns
pub mod LoggedCalls
