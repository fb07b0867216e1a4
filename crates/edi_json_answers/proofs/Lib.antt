pub mod InTurn
pub mod OneLine
pub mod Pieces
pub mod SheetValues
pub mod Values
