mod Cases
pub mod Between
pub mod Refused
pub mod Kept
pub mod Turns
mod Stretch
pub mod Causes
mod Time
mod Alone
mod Answered
mod Caused
pub mod OneRun
pub mod Accepted
pub mod Registers
mod Replies
mod Delivered
pub mod Asking
mod Arming
pub mod Withdrawing
pub mod AsAsked
mod Restarting
mod Breaks
mod Alarms
mod Passes
mod Ready
mod Queues
mod Tables
mod Lanes
mod Words
mod Devices
mod Inputs
pub mod Scheduled
pub mod EdgeSteps
pub mod Arrivals
mod Windows
mod Worked
mod WorkedSteps
