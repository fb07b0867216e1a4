pub mod ByteOrder
pub mod LineTexts
pub mod SameLines
pub mod ReadingOn
pub mod ReadBack
pub mod LastLines
