mod CopiesToChange
mod OrderedCopies
mod Told
pub mod Fitting
mod ParentRows
mod Replaced
mod Returning
mod Worked
pub mod Lawful
pub mod PutPlaces
pub mod PutRows
pub mod PutValid
pub mod MergedHolders
mod Withdrawn
