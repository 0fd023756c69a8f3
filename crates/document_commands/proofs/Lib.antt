pub mod Documents
pub mod Runs
mod Worked
pub mod Readers
pub mod Verdicts
