pub mod Examples
pub mod Masks
pub mod Places
pub mod Registry
