-- What the public contracts do not reach: what private contracts and proofs need.
pub mod Named
pub mod Places
pub mod Reading
pub mod Taken
pub mod Wrong
