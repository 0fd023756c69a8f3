pub mod Master
pub mod Orders
pub mod Messages
pub mod Laws
pub mod Stored
