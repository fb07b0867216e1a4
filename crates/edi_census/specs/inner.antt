pub mod Judging
pub mod Sited
