pub mod KnownSpawn
pub mod EndNamed
pub mod WorkerForm
pub mod MasterForm
