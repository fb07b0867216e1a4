pub mod Answers
pub mod BrokenSheets
pub mod Digests
pub mod Known
pub mod Told
pub mod inner
