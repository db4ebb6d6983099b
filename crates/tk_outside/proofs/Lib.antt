mod WritesLemmas
mod PutLemmas
mod ScheduleLemmas
