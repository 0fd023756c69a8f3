pub mod Lines
pub mod Files
pub mod Done
pub mod Replayed
pub mod Laws
pub mod Rounds
