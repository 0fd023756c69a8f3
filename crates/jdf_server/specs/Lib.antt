pub mod Beginning
pub mod Calls
pub mod Flights
pub mod Lines
pub mod Orders
pub mod Posting
pub mod Requests
pub mod Turns
