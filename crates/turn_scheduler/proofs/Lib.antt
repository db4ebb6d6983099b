mod Order
mod Waiting
mod Choices
