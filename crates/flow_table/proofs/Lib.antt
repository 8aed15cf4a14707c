mod Examples
mod Remembering
pub mod Crossing
