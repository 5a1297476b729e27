mod StreamLists
mod Rising
mod Lists
mod Bools
mod Sides
mod Received
mod ReceivedBlocks
mod Put
pub mod Law
mod Events
pub mod PutLaw
pub mod LiveLaw
pub mod EventLaw
pub mod ControlLaw
