pub mod Assembling
pub mod Examples
pub mod Naming
