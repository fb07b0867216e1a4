-- What private contracts use, and the functions that proofs join to the relations.
pub mod Checking
pub mod Differing
pub mod Forms
pub mod Runs
pub mod Under
