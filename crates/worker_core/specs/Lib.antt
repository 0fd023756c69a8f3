pub mod Numbers
pub mod Worker
pub mod SpawnIndex
pub mod Orders
pub mod Messages
pub mod Laws
pub mod Stored
