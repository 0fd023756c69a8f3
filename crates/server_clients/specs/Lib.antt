pub mod Clients
pub mod Waiting
