pub mod Sums
mod KeyPlaces
pub mod KeyOrder
pub mod KeyTies
pub mod TieMarks
pub mod MarksPlaced
pub mod NodeOrders
pub mod LeastPlaces
pub mod FirstRepeat
pub mod RankOrder
pub mod FirstDifference
pub mod FirstArcRepeat
pub mod AtPlaces
pub mod ArcEnds
pub mod Marked
pub mod BreaksAt
