pub mod Joined
pub mod Beside
pub mod Counted
pub mod ArcsRound
pub mod OnePicture
pub mod KnownPictures
pub mod ArcExtents
pub mod LabelTexts
