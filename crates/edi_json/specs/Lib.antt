pub mod Listed
pub mod Values
pub mod Members
pub mod Texts
pub mod Known
pub mod inner
