pub mod Folders
pub mod Outputs
pub mod Reasons
