pub mod Feeds
pub mod History
pub mod Intakes
pub mod Limits
pub mod Made
pub mod Rooms
pub mod Standing
pub mod Streams
