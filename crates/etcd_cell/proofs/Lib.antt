mod Exchanging
mod Learning
