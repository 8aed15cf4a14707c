pub mod Examples
pub mod Units
