pub mod ListLemmas
mod TableLemmas
mod FinishLemmas
