pub mod Matchings
pub mod Laws
pub mod Differences
pub mod Known
pub mod inner
