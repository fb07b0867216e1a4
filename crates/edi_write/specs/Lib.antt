pub mod Laws
pub mod Layout
pub mod Written
pub mod inner
