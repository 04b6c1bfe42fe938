pub mod Bridge
pub mod Terms
pub mod StmtTerms
