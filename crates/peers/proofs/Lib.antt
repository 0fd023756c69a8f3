pub mod Reading
pub mod Coming
pub mod Giving
pub mod Turning
pub mod Exchanging
