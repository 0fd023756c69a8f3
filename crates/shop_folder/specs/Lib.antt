pub mod Files
pub mod Names
pub mod Owner
pub mod Place
pub mod Routes
