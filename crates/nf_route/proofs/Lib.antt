pub mod Leading
pub mod Parting
pub mod Ranging
pub mod Spans
