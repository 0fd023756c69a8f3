pub mod StaysLater
pub mod Sending
pub mod MessagesTaken
pub mod SentTaken
pub mod SentTexts
pub mod Receivers
pub mod AnswersCome
pub mod Telling
