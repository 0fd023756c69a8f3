pub mod Destination
pub mod Pattern
pub mod Table
pub mod Places
pub mod PeersInFile
