pub mod Marked
pub mod Labels
pub mod Tints
pub mod Drawn
pub mod UnderFiles
pub mod Laws
pub mod inner
