pub mod Document
pub mod Run
