pub mod Packings
pub mod Reported
pub mod Sited
pub mod EachPlace
