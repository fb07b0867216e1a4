-- What the public contracts do not reach: how the code goes about it, and what private contracts and proofs need.
pub mod Number
pub mod Spelling
pub mod Lines
pub mod Kinds
pub mod Zones
pub mod ZoneLists
pub mod Held
pub mod Feeding
pub mod Groups
pub mod HandingOn
pub mod FilePieces
pub mod Texts
pub mod Borrowed
pub mod Refusal
pub mod AllBroken
