pub mod Matching
pub mod OneAnswer
pub mod SomeAnswer
