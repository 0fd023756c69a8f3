pub mod Guests
pub mod Limits
