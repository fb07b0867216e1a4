-- What private contracts use, and the functions that proofs join to the relations.
pub mod AtRecord
pub mod Faces
pub mod Keyed
pub mod Placed
pub mod Nodes
pub mod Arcs
pub mod Repeats
