pub mod Answer
pub mod Request
pub mod Response
