pub mod WholeLemmas
pub mod EscapeLemmas
