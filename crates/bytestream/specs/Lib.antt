pub mod Refusals
pub mod UploadErrors
pub mod Reading
pub mod Querying
pub mod Writing
pub mod Shown
pub use Rattle.resource_names.specs.declared.parse.TheConstants as ParseConstants
pub use Rattle.resource_names.specs.declared.name.NameError
pub use Rattle.resource_names.specs.Segments
pub use Rattle.resource_names.specs.Size
pub use Rattle.resource_names.specs.Names
