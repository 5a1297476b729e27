pub mod Places
pub mod Orders
pub mod Numbers
pub mod Keeping
pub mod Sums
pub mod Same
