mod Objects
mod Shares
mod Laws
mod Steps
