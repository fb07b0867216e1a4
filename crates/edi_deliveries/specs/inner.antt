-- What private contracts use.
pub mod Checking
pub mod Finding
pub mod Opening
pub mod Paths
