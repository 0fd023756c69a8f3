pub mod Counts
pub mod Refused
pub mod Fault
pub mod Streams
pub mod Ends
