pub mod Again
pub mod Attributes
pub mod Faults
pub mod ListLemmas
pub mod Mapped
pub mod Tests
pub mod Wholes
