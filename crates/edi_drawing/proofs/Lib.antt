pub mod Marking
pub mod Together
pub mod Coloured
pub mod Labelled
pub mod Touched
