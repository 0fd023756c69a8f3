pub mod InMemory
pub mod Journal
pub mod Line
pub mod What
