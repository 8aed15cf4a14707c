pub mod Calls
pub mod Classic
pub mod Emitted
pub mod Faulty
pub mod Judged
pub mod Reading
pub mod Spelling
