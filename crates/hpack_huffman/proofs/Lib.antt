pub mod BitLists
pub mod Canonical
pub mod Symbols
pub mod Texts
pub mod CodeTable
pub mod Readers
pub mod Windows
