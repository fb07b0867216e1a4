pub mod Packing
pub mod PackedSites
pub mod Sheets
