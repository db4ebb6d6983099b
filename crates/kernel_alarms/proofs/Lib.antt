mod Kept
mod Commands
mod QuietTurns
mod Answers
