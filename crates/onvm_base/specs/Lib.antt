pub mod Lending
pub mod Moves
pub mod Plan
pub mod Services
pub mod Status
