pub mod Happenings
pub mod Replies
pub mod Named
pub mod GivesWell
pub mod ReadsBlob
