pub mod Acts
pub mod Answers
pub mod Routing
pub mod Tree
