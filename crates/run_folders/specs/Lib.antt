pub mod Folders
pub mod Entering
pub mod Listing
pub mod Segments
pub mod Below
