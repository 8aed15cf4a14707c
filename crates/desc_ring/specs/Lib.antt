pub mod Arrays
pub mod Ends
