pub mod Items
pub mod Destination
pub mod Turns
pub mod Table
pub mod Runs
pub mod Laws
