pub mod EventLine
pub mod Losses
pub mod Run
