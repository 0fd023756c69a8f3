pub mod Commands
pub mod ListedFiles
mod Told
pub mod Journaled
