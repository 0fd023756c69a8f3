pub mod InputFile
pub mod SendCommand
pub mod OrderCommand
