mod Copies
mod Inserting
