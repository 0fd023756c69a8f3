mod Shop
mod Replay
mod Withdrawal
