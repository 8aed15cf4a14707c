pub mod Chains
pub mod Keeping
pub mod Noting
pub mod Roles
pub mod Rooms
pub mod Turns
