pub mod Keys
pub mod Ties
pub mod Passing
pub mod Looks
pub mod Flights
