pub mod Again
pub mod Outlines
pub mod PartAgain
pub mod PartOutlines
pub mod PoolAgain
pub mod PoolShape
pub mod Printing
pub mod RoundTrip
pub mod Shape
mod Worked
mod WorkedParts
mod WorkedTickets
