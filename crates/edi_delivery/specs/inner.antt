-- What private contracts use.
pub mod LotTests
pub mod Steps
pub mod Drafts
pub mod Noted
pub mod Taken
