mod BufferLemmas
mod HandedOut
mod LineLemmas
mod ReadLemmas
mod SentLemmas
