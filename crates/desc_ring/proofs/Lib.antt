pub mod Backward
pub mod Beginning
pub mod Counts
pub mod InArrays
pub mod Moved
pub mod Roominess
pub mod Shown
pub mod Stays
