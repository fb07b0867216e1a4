-- What the public contracts do not reach.
pub mod Labels
pub mod Tints
