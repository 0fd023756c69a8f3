pub mod Outbox
pub mod Routes
pub mod Ledger
pub mod Sending
pub mod Laws
