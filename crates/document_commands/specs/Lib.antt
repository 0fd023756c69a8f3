pub mod EditCommand
pub mod CheckCommand
pub mod ExplainCommand
pub mod Told
pub mod Caused
