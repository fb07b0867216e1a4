pub mod TopologyRules
pub mod NodeKeys
pub mod Ranking
pub mod Marks
pub mod EarlierRecords
pub mod Directions
pub mod Arcs
pub mod inner
