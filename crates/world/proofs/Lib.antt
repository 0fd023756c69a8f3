pub mod Master
pub mod Worker
pub mod Messages
pub mod Shop
pub mod Runs
mod Examples
