pub mod Places
pub mod Compared
pub mod RowsRead
pub mod Found
pub mod Patterns
