pub mod RunNames
pub mod Parting
pub mod Nowhere
mod PlaceLemmas
mod SegmentLemmas
mod NamesBehind
mod BelowFolder
