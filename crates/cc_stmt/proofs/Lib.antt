pub mod NoteLemmas
pub mod FileLemmas
pub mod KnotLemmas
pub mod ListLemmas
pub mod ReadLemmas
