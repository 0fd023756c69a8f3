pub mod Peer
pub mod Client
pub mod Calls
pub mod Turn
pub mod Exchange
pub mod Outgoing
pub mod Call
