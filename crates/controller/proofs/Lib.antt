pub mod Answered
pub mod NeverMemory
pub mod Sendable
