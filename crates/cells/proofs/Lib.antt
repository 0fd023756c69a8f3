mod Acting
mod Chained
mod Following
mod Growing
pub mod Keeping
