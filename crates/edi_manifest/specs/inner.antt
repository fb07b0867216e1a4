-- What private contracts use.
pub mod Reading
