pub mod ListedLines
pub mod PlainTexts
pub mod LineLemmas
pub mod Values
