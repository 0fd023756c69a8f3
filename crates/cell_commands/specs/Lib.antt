pub mod Calls
pub mod Faults
pub mod Given
pub mod Journaled
pub mod Steps
