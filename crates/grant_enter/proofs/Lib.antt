mod Tables
mod Living
mod Moves
mod Boot
mod Sight
mod Instructions
mod Stretch
