pub mod Calls
pub mod Chain
pub mod Keeping
pub mod Kept
pub mod Runs
pub mod Scripted
