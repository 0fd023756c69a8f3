mod Deliveries
mod Entries
