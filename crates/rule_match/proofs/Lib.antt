pub mod Parted
pub mod Picked
pub mod Sifted
