pub mod Table
pub mod Ends
pub mod Tuned
pub mod Rules
pub mod Kept
