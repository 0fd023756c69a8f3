pub mod Scripts
mod Worked
