pub mod Told
pub mod Tokens
