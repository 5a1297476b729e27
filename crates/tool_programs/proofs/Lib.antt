mod Calls
mod CallLines
mod Alone
mod ToldRuns
mod Steps
