pub mod Examples
pub mod Handing
pub mod Roles
pub mod Rooms
pub mod Serving
pub mod Stations
pub mod Steps
