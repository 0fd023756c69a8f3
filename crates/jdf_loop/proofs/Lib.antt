mod AllEvents
mod EventLines
mod LongTexts
mod OneTicket
