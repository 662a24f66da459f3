pub mod Waving
pub mod Sliding
