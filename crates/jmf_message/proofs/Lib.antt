pub mod Fronts
pub mod IdTexts
pub mod ItemData
pub mod PartRead
pub mod Parts
pub mod RoundTrip
pub mod Saying
pub mod Shape
mod Worked
mod WorkedAborts
mod WorkedCommands
