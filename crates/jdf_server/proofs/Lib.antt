mod LinesJoined
mod TurnsMade
