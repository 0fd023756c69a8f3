pub mod EditWritten
pub mod Marked
pub mod Nodes
pub mod PartWritten
pub mod Printed
pub mod TicketText
pub mod Written
