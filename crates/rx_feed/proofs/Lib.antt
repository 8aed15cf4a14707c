pub mod Captured
pub mod Feeding
pub mod Flowing
pub mod Making
pub mod Sound
pub mod Stopping
pub mod Streaming
pub mod Taking
