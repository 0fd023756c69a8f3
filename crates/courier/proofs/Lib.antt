pub mod Differing
pub mod Turning
pub mod Keeping
pub mod Running
pub mod Taking
