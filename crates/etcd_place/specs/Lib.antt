pub mod Folder
pub mod Named
pub mod NamedFolder
pub mod Place
