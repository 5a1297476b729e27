pub mod Nowhere
mod AtSites
mod OfRuns
mod Paths
