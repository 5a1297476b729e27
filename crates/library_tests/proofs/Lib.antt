pub mod Beside
mod Rights
pub mod Fitting
