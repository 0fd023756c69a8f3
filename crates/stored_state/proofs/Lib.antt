mod AnySteps
mod Apart
mod KindTold
pub mod Loading
pub mod MessageTexts
pub mod OnceMore
mod OutSoFar
pub mod HeldSeats
mod SavedOnce
mod TakingEach
mod Unsaved
