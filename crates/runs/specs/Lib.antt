pub mod Lines
pub mod Cells
pub mod CellLaws
pub mod Written
pub mod Inverses
