pub mod Callers
pub mod Streams
