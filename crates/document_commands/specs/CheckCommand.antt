pub mod Kinds
pub mod Readers
pub mod Verdict
pub mod Run
