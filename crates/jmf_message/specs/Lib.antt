pub mod Items
pub mod Written
pub mod Family
pub mod Form
pub mod Decoded
pub mod Known
pub mod Laws
pub mod Refused
