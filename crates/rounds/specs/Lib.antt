pub mod Anew
pub mod Kept
pub mod Line
pub mod Orders
pub mod Parted
