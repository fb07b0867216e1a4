-- What the public contracts do not reach: how the code goes about it, and what private contracts and proofs need.
pub mod Barring
pub mod Elsewhere
pub mod Found
pub mod KindClasses
pub mod Lengths
pub mod LostEnds
pub mod OpenAttributes
pub mod RowPartners
pub mod Sites
pub mod Skipped
