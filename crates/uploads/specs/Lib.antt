pub mod Uploads
pub mod Shown
pub mod Writing
pub mod Fitting
pub mod Errors
