pub mod Admissions
pub mod Examples
pub mod Feeders
pub mod Lanes
pub mod Looks
pub mod Moments
pub mod Throttles
