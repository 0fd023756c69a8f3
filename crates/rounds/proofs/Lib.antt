pub mod Anewed
pub mod Answering
pub mod Keeping
mod Parting
