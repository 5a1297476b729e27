pub mod Trees
pub mod Stages
pub mod Claims
pub mod RunTrees
