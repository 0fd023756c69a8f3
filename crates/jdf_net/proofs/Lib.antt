mod AnyCalls
mod ServedPlaces
mod WordsAnswered
