mod Connections
mod Chosen
pub mod Lifts
pub mod Owes
pub mod Answers
pub mod Calls
pub mod Turns
pub mod Named
pub mod Lengths
pub mod Happens
pub mod Texts
pub mod Runs
pub mod Takings
pub mod Given
pub mod CallEntries
pub mod Looks
pub mod OneStream
pub mod ReadCalls
pub mod ReadStreams
pub mod ReadStands
pub mod ReadFrames
pub mod ReadRuns
