pub mod Profiles
pub mod Laws
pub mod Known
