pub mod StateFormat
pub mod RecordForm
pub mod MasterForm
pub mod EntryForm
pub mod PartFaults
pub mod WorkerForm
pub mod Writable
