pub mod Lines
pub mod Weights
pub mod Bytewise
pub mod Spreading
