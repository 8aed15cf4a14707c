pub mod Fair
pub mod OneTranslation
pub mod Places
pub mod RightChecksums
pub mod RightSums
pub mod Staying
pub mod Translated
pub mod WordSums
