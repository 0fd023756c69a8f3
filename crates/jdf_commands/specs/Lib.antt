pub mod WorldCommand
pub mod Calls
