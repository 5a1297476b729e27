pub mod Credit
