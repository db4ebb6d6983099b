mod Masks
mod Rounds
mod Visiting
