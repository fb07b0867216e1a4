pub mod Changes
pub mod Forms
pub mod Differences
pub mod Directions
pub mod UnderFiles
pub mod Laws
pub mod Known
pub mod inner
