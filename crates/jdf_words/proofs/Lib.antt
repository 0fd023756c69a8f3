pub mod Adding
pub mod Faults
pub mod Numbers
pub mod Reached
pub mod Walks
mod Worked
