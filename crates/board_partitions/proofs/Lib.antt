mod Starts
mod Boots
mod Scripts
mod Worked
