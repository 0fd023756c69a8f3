pub mod Decoding
pub mod Listing
pub mod Told
