pub mod Read
pub mod Tree
