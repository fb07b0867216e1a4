pub mod Codes
pub mod Known
pub mod Requests
pub mod inner
