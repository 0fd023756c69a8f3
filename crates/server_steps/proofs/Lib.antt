mod AtPath
mod Beginning
mod JournalLines
mod ListedFiles
mod NamedFiles
mod OrderLines
mod OtherNames
mod OwnSteps
