mod Lanes
mod Steps
mod Others
mod Alone
mod Windows
mod Runs
mod Records
mod Turns
