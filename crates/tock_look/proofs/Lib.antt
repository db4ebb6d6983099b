mod Answering
mod AskList
mod Conversing
mod WatchedPlaces
