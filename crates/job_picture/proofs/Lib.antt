mod PlainTexts
mod Folded
pub mod Lines
pub mod MarkTable
