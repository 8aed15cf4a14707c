pub mod Bytes
pub mod Deeds
pub mod Moved
pub mod Names
