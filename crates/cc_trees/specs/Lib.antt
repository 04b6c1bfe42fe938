pub mod StatementParts
pub mod Nests
