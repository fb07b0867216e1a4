-- What the public contracts do not reach: what private contracts and proofs need.
pub mod Census
pub mod Explains
pub mod Hashes
pub mod Hinted
pub mod Outcome
