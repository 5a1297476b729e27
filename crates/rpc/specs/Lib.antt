pub mod Status
pub mod Methods
pub mod Messages
