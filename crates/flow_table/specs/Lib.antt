pub mod Examples
pub mod Flows
