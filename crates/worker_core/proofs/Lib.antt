pub mod AtNumber
pub mod Closing
pub mod EditedPart
pub mod Refusals
pub mod Kept
pub mod Places
pub mod OrderLaws
pub mod MessageLaws
pub mod GivingUp
pub mod NeverMemory
pub mod Sends
mod Worked
pub mod KeptStored
pub mod SpawnIndex
