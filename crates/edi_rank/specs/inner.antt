-- What private contracts need.
pub mod ArcSides
pub mod PlacedLinks
pub mod Layers
pub mod Pieces
pub mod SparseLists
