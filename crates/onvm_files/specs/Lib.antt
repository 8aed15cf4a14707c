pub mod Places
pub mod Target
