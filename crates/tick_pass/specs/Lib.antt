pub mod Examples
pub mod Roles
pub mod Taking
pub mod Telling
