pub mod Results
pub mod Lengths
pub mod Complete
pub mod Answering
pub mod LastTrees
pub mod Naming
pub mod TreeTexts
pub mod Work
