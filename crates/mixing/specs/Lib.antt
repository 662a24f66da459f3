pub mod Sides
pub mod Mixes
