pub mod Configs
pub mod Events
pub mod Faults
pub mod Shown
pub mod Instance
pub use Rattle.instance_limits.specs.Limits
pub use Rattle.instance_limits.specs.Shown as LimitsShown
