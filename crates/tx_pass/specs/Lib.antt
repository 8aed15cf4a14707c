pub mod Examples
pub mod Keeping
pub mod Moving
pub mod Noting
pub mod Passing
pub mod Roles
