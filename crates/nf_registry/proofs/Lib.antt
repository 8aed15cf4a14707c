pub mod Appending
pub mod Examples
pub mod Naming
pub mod Masking
