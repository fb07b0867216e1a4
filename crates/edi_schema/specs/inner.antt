-- What private contracts use, and the functions that proofs join to the relations.
pub mod Drafts
pub mod Places
pub mod Steps
