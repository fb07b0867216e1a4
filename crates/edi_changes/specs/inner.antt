-- What private contracts use.
pub mod Answering
pub mod Checking
pub mod Merging
pub mod Reading
