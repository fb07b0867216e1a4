-- What the public contracts do not reach.
pub mod Attributes
pub mod Counts
pub mod Indices
pub mod Marks
pub mod Sheets
