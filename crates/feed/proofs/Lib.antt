pub mod Laws
pub mod Chunks
pub mod Turns
pub mod Calls
