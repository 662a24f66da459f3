pub mod Machine
pub mod Sounding
pub mod Beside
pub mod Exact
