pub mod Exact
pub mod Frames
pub mod Quotient
pub mod Lengths
pub mod Theorems
pub mod Delivered
pub mod Asked
