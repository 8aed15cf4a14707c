pub mod Names
pub mod Sections
pub mod Tallies
