pub mod Answers
pub mod Probes
pub mod Laws
