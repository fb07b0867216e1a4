pub mod Rounds
pub mod Odd
