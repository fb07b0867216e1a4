-- What private contracts use, and the functions that proofs join to the relations.
pub mod SharedFronts
pub mod ClassLines
pub mod Heads
pub mod LabelledPlans
pub mod Openings
pub mod Numbered
