pub mod Places
pub mod Wide
