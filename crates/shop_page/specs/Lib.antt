pub mod Cells
pub mod Counted
pub mod Delays
pub mod ListJson
pub mod Metrics
pub mod Page
pub mod Rows
pub mod WorkerJson
