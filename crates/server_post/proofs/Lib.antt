pub mod Landing
pub mod Looking
pub mod Numbers
