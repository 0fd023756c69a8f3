pub mod Orders
pub mod Openings
pub mod States
pub mod ShownMaster
