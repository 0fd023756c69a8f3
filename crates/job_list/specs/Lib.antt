pub mod Work
pub mod Laws
