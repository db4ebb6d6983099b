mod Known
mod Joined
