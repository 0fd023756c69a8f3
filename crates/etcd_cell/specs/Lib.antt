pub mod Asking
pub mod Cell
pub mod Exchange
