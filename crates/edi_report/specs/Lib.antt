pub mod Sites
pub mod Reports
pub mod Located
pub mod Lines
pub mod Tables
pub mod Values
pub mod Known
pub mod inner
