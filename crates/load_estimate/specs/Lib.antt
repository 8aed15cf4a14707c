pub mod Calls
pub mod Fields
pub mod Order
pub mod Windows
