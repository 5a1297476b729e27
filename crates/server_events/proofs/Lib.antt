pub mod FaultLemmas
pub mod ListLemmas
pub mod ParentLemmas
pub mod OwnLemmas
pub mod NameLemmas
mod Chosen
