pub mod AnswerText
pub mod EventForm
pub mod Script
