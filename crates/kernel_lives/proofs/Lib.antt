mod Accounts
mod Changes
mod Lives
mod Denials
pub mod Counts
mod Reopened
mod Prints
mod Lists
mod Wholes
mod Loads
mod Ended
pub mod Registers
mod OwnBuffers
mod Requests
mod Queues
mod Begun
mod Withdrawn
mod StoredBytes
mod Within
mod Writing
mod Writes
mod Shown
mod Given
mod Worked
