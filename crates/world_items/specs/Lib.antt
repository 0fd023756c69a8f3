pub mod End
pub mod Holder
pub mod Reply
pub mod Word
pub mod WorkerOrder
