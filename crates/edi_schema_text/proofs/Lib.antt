pub mod Lines
pub mod Fields
pub mod Meaning
pub mod Named
pub mod Sorted
pub mod Tell
pub mod Stated
