pub mod Places
pub mod EntryLemmas
mod Known
