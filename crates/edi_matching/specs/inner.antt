-- What the public contracts do not reach: how the code goes about it.
pub mod Proposals
pub mod Links
pub mod Faces
pub mod Marks
pub mod Partners
pub mod Same
pub mod Checksums
pub mod Ranked
pub mod PlainLinks
pub mod Entries
pub mod Additions
pub mod Contents
pub mod Inverses
