-- What the public contracts do not reach: how the code goes about it, and what private contracts and proofs need.
pub mod Texts
pub mod Records
pub mod RecordRules
pub mod Stored
pub mod RecordParts
pub mod RecordRefusal
pub mod Lists
pub mod Shapes
pub mod PartLists
pub mod FlatRecords
pub mod BlockLists
pub mod BlocksAhead
pub mod Remaking
pub mod GroupRules
pub mod AllBroken
pub mod SharedParts
pub mod Identifiers
