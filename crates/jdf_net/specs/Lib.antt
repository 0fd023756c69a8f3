pub mod ServeCommand
pub mod Words
