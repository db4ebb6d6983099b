pub mod Adding
mod Stretches
mod Texts
mod TurnCounts
mod Turning
mod Seeking
mod Finding
mod Watching
mod Granted
mod Timing
mod Agreeing
mod Worked
