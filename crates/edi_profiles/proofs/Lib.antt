pub mod Transfer
pub mod Today
pub mod Flat
pub mod Points
pub mod Later
pub mod Stated
pub mod Sheets
pub mod Forms
