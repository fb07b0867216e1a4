pub mod Steps
pub mod Comparisons
pub mod Compared
pub mod Codes
pub mod Progress
pub mod Joints
pub mod Keys
pub mod LonePairs
